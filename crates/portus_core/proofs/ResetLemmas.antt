-- One turn of the loop that resets volatile names.
use Rattle.std.proofs.Common.{◌≡◌, refl, ℕ, ◌+◌, ◌<◌, Bool, true, false, List, [], ◌∷◌, ◌++◌, length, take, drop, set, get_or, ap, sym, ◌∙◌, arith, append_assoc, if◌then◌else◌}
use Rattle.std.proofs.lemmas.List.{take_more, take_more_set, drop-set-lt, drop_more}
use Rattle.portus_core.specs.declared.program.Decl.{Decl}
use Rattle.portus_core.specs.OneAcknowledgement.{reset}

-- the list after one turn
abbrev pub turned : Bool → List ℕ → ℕ → ℕ → List ℕ
turned volatile values i start = if volatile then set values i start else values

take-turned : (volatile : Bool) (values : List ℕ) (i start : ℕ) → i < length values → take (i + 1) (turned volatile values i start) ≡ take i values ++ (if volatile then start else get_or values i 0) ∷ []
take-turned true values i start within = take_more_set values i start within
take-turned false values i start within = take_more values i 0 within

drop-turned : (volatile : Bool) (values : List ℕ) (i start : ℕ) → drop (i + 1) (turned volatile values i start) ≡ drop (i + 1) values
drop-turned true values i start = drop-set-lt (i + 1) values i start (omega arith)
drop-turned false values i start = refl

pub reset-turned : (decls : List Decl) (values : List ℕ) (i : ℕ) (decl : Decl) → i < length values → i < length decls → decl ≡ get_or decls i decl → take (i + 1) (turned decl.volatile values i decl.start) ++ reset (drop (i + 1) decls) (drop (i + 1) (turned decl.volatile values i decl.start)) ≡ take i values ++ reset (drop i decls) (drop i values)
reset-turned decls values i decl within declared read =
    let value = if decl.volatile then decl.start else get_or values i 0 in
    let rest = drop (i + 1) decls in
    let front : drop i decls ≡ decl ∷ rest = drop_more decls i decl declared ∙ ap (λ d. d ∷ rest) (sym read) in
    ap (λ xs. xs ++ reset rest (drop (i + 1) (turned decl.volatile values i decl.start))) (take-turned decl.volatile values i decl.start within)
    ∙ ap (λ xs. (take i values ++ value ∷ []) ++ reset rest xs) (drop-turned decl.volatile values i decl.start)
    ∙ append_assoc (take i values) (value ∷ []) (reset rest (drop (i + 1) values))
    ∙ ap (λ ds. take i values ++ reset ds (get_or values i 0 ∷ drop (i + 1) values)) (sym front)
    ∙ ap (λ vs. take i values ++ reset (drop i decls) vs) (sym (drop_more values i 0 within))

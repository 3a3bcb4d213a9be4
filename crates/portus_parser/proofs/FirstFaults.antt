-- A reading ends with the first lexeme that is wrong, or else at the last list that is left open.
use Rattle.std.specs.Prelude.{◌≡◌, ℕ, ◌+◌, ◌-◌, Bool, true, false, ◌==◌, nat_le, Option, Some, None, Result, Ok, Err, if◌then◌else◌, List, [], ◌∷◌, ◌++◌, length}
use Rattle.std.specs.Option.{option_or, option_map}
use Rattle.std.proofs.Common.{arith, refl, ap, sym, ◌∙◌, suc, zero, drop}
use Rattle.std.proofs.lemmas.Bool.{ne_eqb}
use Rattle.std.proofs.lemmas.List.{drop_all}
use Rattle.ccp_base.specs.declared.place.Place.{Place}
use Rattle.portus_core.specs.Trees.{Node, list, collected}
use Rattle.portus_lexer.specs.Lexemes.{Lexeme}
use Rattle.portus_parser.specs.declared.fault.ParseFault.{ParseFault}
use Rattle.portus_parser.specs.declared.fault.ParseFault.TheVariants.{Unexpected, Nesting, Unclosed}
use Rattle.portus_parser.specs.Atoms.{atom_of}
use Rattle.std.specs.Result.{result_err}
use Rattle.portus_parser.specs.Refusals.{is_opening, is_closing, first_fault, unopened, last_unclosed, refusal_of}
use Rattle.portus_parser.specs.Readings.{Opened, OpenLists, read_lexemes, unread, with_part, closed_over, put_in}
use Rattle.portus_parser.proofs.OpenLists.{read-Err}

abbrev state : List Opened → List Node → Result OpenLists ParseFault
state opens parts = Ok (record { opens = opens; parts = parts })

-- the fault that a reading ends with, if it does
abbrev pub fault_read : Result (List Node) ParseFault → Option ParseFault
fault_read (Ok forms) = None
fault_read (Err fault) = Some fault

-- the place of the innermost open list
abbrev innermost : List Opened → Option Place
innermost [] = None
innermost (opened ∷ opens) = Some opened.place

-- the place of the list that is left open last, if these are open before some lexemes
abbrev left_open : List Opened → List Lexeme → Option Place
left_open opens lexemes = option_or (last_unclosed lexemes) (innermost (drop (unopened lexemes) opens))

abbrev expected : List Opened → List Lexeme → Option ParseFault
expected opens lexemes = option_or (first_fault (length opens) lexemes) (option_map Unclosed (left_open opens lexemes))

abbrev Agrees : List Lexeme → Type 0
Agrees lexemes = (opens : List Opened) (parts : List Node) → fault_read (read_lexemes (state opens parts) lexemes) ≡ expected opens lexemes

fault_read-Err : (fault : ParseFault) (rest : List Lexeme) → fault_read (read_lexemes (Err fault) rest) ≡ Some fault
fault_read-Err fault rest = ap fault_read (read-Err fault rest)

not_zero : (n : ℕ) → (suc n == 0) ≡ false
not_zero n = ne_eqb (suc n) 0 (λ e. omega arith)

opening_counts : (last : Option Place) (opened : Opened) (opens : List Opened) (n : ℕ) → option_or last (innermost (drop n (opened ∷ opens))) ≡ option_or (option_or last (if n == 0 then Some opened.place else None)) (innermost (drop (n - 1) opens))
opening_counts (Some place) opened opens n = refl
opening_counts None opened opens zero = refl
opening_counts None opened opens (suc n) = rw (not_zero n) (ap (λ k. innermost (drop k opens)) (let e : n ≡ suc n - 1 = omega arith in e))

option_or-None : {A : Type 0} (o : Option A) → option_or o None ≡ o
option_or-None None = refl
option_or-None (Some x) = refl

opening_agrees : (full : Bool) (lexeme : Lexeme) (rest : List Lexeme) → Agrees rest → (opens : List Opened) (parts : List Node) → fault_read (read_lexemes (if full then Err (Nesting lexeme.place) else state (record { place = lexeme.place; before = parts } ∷ opens) []) rest) ≡ option_or (option_or (if full then Some (Nesting lexeme.place) else None) (first_fault (length opens + 1) rest)) (option_map Unclosed (option_or (option_or (last_unclosed rest) (if unopened rest == 0 then Some lexeme.place else None)) (innermost (drop (unopened rest - 1) opens))))
opening_agrees true lexeme rest agrees opens parts = fault_read-Err (Nesting lexeme.place) rest
opening_agrees false lexeme rest agrees opens parts =
    let opened : Opened = record { place = lexeme.place; before = parts } in
    agrees (opened ∷ opens) []
    ∙ ap (λ n. option_or (first_fault n rest) (option_map Unclosed (left_open (opened ∷ opens) rest))) (let e : suc (length opens) ≡ length opens + 1 = omega arith in e)
    ∙ ap (λ p. option_or (first_fault (length opens + 1) rest) (option_map Unclosed p)) (opening_counts (last_unclosed rest) opened opens (unopened rest))

closing_agrees : (lexeme : Lexeme) (rest : List Lexeme) → Agrees rest → (opens : List Opened) (parts : List Node) → fault_read (read_lexemes (closed_over lexeme.place opens parts) rest) ≡ option_or (option_or (if length opens == 0 then Some (Unexpected lexeme.place) else None) (first_fault (length opens - 1) rest)) (option_map Unclosed (option_or (option_or (last_unclosed rest) None) (innermost (drop (unopened rest + 1) opens))))
closing_agrees lexeme rest agrees [] parts = fault_read-Err (Unexpected lexeme.place) rest
closing_agrees lexeme rest agrees (opened ∷ opens) parts =
    rw (not_zero (length opens))
    (agrees opens (opened.before ++ list opened.place (collected parts) ∷ [])
    ∙ ap (λ n. option_or (first_fault n rest) (option_map Unclosed (left_open opens rest))) (let e : length opens ≡ suc (length opens) - 1 = omega arith in e)
    ∙ ap (λ last. option_or (first_fault (suc (length opens) - 1) rest) (option_map Unclosed (option_or last (innermost (drop (unopened rest) opens))))) (sym (option_or-None (last_unclosed rest)))
    ∙ ap (λ k. option_or (first_fault (suc (length opens) - 1) rest) (option_map Unclosed (option_or (option_or (last_unclosed rest) None) (innermost (drop k (opened ∷ opens)))))) (let e : suc (unopened rest) ≡ unopened rest + 1 = omega arith in e))

part_agrees : (lexeme : Lexeme) (rest : List Lexeme) → Agrees rest → (opens : List Opened) (parts : List Node) (spelled : Result Node ParseFault) → fault_read (read_lexemes (with_part (record { opens = opens; parts = parts }) spelled) rest) ≡ option_or (option_or (result_err spelled) (first_fault (length opens) rest)) (option_map Unclosed (option_or (option_or (last_unclosed rest) None) (innermost (drop (unopened rest) opens))))
part_agrees lexeme rest agrees opens parts (Err fault) = fault_read-Err fault rest
part_agrees lexeme rest agrees opens parts (Ok node) =
    agrees opens (parts ++ node ∷ [])
    ∙ ap (λ last. option_or (first_fault (length opens) rest) (option_map Unclosed (option_or last (innermost (drop (unopened rest) opens))))) (sym (option_or-None (last_unclosed rest)))

atom_agrees : (lexeme : Lexeme) (rest : List Lexeme) → Agrees rest → (opens : List Opened) (parts : List Node) → fault_read (read_lexemes (put_in lexeme.place lexeme.text (record { opens = opens; parts = parts }) opens) rest) ≡ option_or (option_or (if length opens == 0 then Some (Unexpected lexeme.place) else result_err (atom_of lexeme.place lexeme.text)) (first_fault (length opens) rest)) (option_map Unclosed (option_or (option_or (last_unclosed rest) None) (innermost (drop (unopened rest) opens))))
atom_agrees lexeme rest agrees [] parts = fault_read-Err (Unexpected lexeme.place) rest
atom_agrees lexeme rest agrees (opened ∷ opens) parts =
    rw (not_zero (length opens)) (part_agrees lexeme rest agrees (opened ∷ opens) parts (atom_of lexeme.place lexeme.text))

lexeme_agrees : (opening closing : Bool) (lexeme : Lexeme) (rest : List Lexeme) → Agrees rest → (opens : List Opened) (parts : List Node) → is_opening lexeme.text ≡ opening → is_closing lexeme.text ≡ closing → fault_read (read_lexemes (state opens parts) (lexeme ∷ rest)) ≡ expected opens (lexeme ∷ rest)
lexeme_agrees true closing lexeme rest agrees opens parts e f = rw e (opening_agrees (nat_le 64 (length opens)) lexeme rest agrees opens parts)
lexeme_agrees false true lexeme rest agrees opens parts e f = rw (e, f) (closing_agrees lexeme rest agrees opens parts)
lexeme_agrees false false lexeme rest agrees opens parts e f = rw (e, f) (atom_agrees lexeme rest agrees opens parts)

-- a reading ends with the first lexeme that is wrong, or else at the last list that is left open
agrees : (lexemes : List Lexeme) → Agrees lexemes
agrees [] [] parts = refl
agrees [] (opened ∷ opens) parts = refl
agrees (lexeme ∷ rest) opens parts = lexeme_agrees (is_opening lexeme.text) (is_closing lexeme.text) lexeme rest (agrees rest) opens parts refl refl

nothing_left : (n : ℕ) (last : Option Place) → option_or last (innermost (drop n [])) ≡ last
nothing_left n last = ap (λ (opens : List Opened). option_or last (innermost opens)) (drop_all n [] (omega arith)) ∙ option_or-None last

pub fault_read-unread : (lexemes : List Lexeme) → fault_read (read_lexemes unread lexemes) ≡ refusal_of lexemes
fault_read-unread lexemes =
    agrees lexemes [] []
    ∙ ap (λ p. option_or (first_fault 0 lexemes) (option_map Unclosed p)) (nothing_left (unopened lexemes) (last_unclosed lexemes))

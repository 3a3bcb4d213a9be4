-- The next acknowledgement of a fold, and the reports up to it.
use Rattle.std.proofs.Common.{◌≡◌, ℕ, zero, suc, ◌+◌, ◌<◌, Some, List, [], ◌∷◌, ◌++◌, length, drop, get_or, slice_get, ap, ap₂, ◌∙◌, arith, append_assoc}
use Rattle.std.proofs.lemmas.List.{drop-drop}
use Rattle.std.proofs.lemmas.Option.{slice_get-get_or}
use Rattle.ccp_base.specs.declared.exchange.Report.{Report}
use Rattle.ccp_base.specs.RunningEpochs.{Reporter}
use Rattle.portus_core.specs.Value.{Cause}
use Rattle.portus_core.specs.Epoch.{Event, Reading, Track, after_event}
use Rattle.portus_core.specs.Reports.{reports, reports_at}

next-at : {X : Type 0} (n : ℕ) (xs : List X) (x d : X) (rest : List X) → x ∷ rest ≡ drop n xs → (n < length xs) × (get_or xs n d ≡ x)
next-at zero [] x d rest is = cc
next-at (suc n) [] x d rest is = cc
next-at zero (y ∷ xs) x d rest is = (omega arith, cc)
next-at (suc n) (y ∷ xs) x d rest is =
    let later = next-at n xs x d rest is in
    (omega (arith, later.0), later.1)

pub next-item : {X : Type 0} (n : ℕ) (xs : List X) (x : X) (rest : List X) → x ∷ rest ≡ drop n xs → slice_get xs n ≡ Some x
next-item n xs x rest is =
    let at = next-at n xs x x rest is in
    slice_get-get_or xs n x at.0 ∙ ap (λ y. Some y) at.1

pub items-after : {X : Type 0} (n : ℕ) (xs : List X) (x : X) (rest : List X) → x ∷ rest ≡ drop n xs → rest ≡ drop (n + 1) xs
items-after n xs x rest is = ap (drop 1) is ∙ drop-drop 1 n xs

pub reports-step : (reading : Reading Cause) (epoch : Reporter) (event : Event) (rest : List Event) (before after : Track) (old new all : List Report)
    → new ≡ old ++ reports_at reading epoch event before
    → after ≡ after_event reading event before
    → old ++ reports reading epoch (event ∷ rest) before ≡ all
    → new ++ reports reading epoch rest after ≡ all
reports-step reading epoch event rest before after old new all made next so_far =
    ap₂ (λ xs t. xs ++ reports reading epoch rest t) made next
    ∙ append_assoc old (reports_at reading epoch event before) (reports reading epoch rest (after_event reading event before))
    ∙ so_far

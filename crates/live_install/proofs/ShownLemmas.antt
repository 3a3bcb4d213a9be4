-- A flow's part of a rollout's text shows at how many acknowledgements each entry and each change came.
use Rattle.std.specs.Prelude.{◌≡◌, ℕ, ◌+◌, ◌<◌, ◌^◌, ◌==◌, ◌&&◌, Bool, true, false, Ok, Err, List, [], ◌∷◌, ◌++◌, length, drop, map, codes, decimal, refl, ⊤}
use Rattle.std.proofs.Common.{ap, sym, ◌∙◌, subst, arith, append_assoc}
use Rattle.std.proofs.lemmas.List.{append_cancel_left}
use Rattle.std.proofs.lemmas.Fmt.{decimal_injective}
use Rattle.ccp_base.specs.declared.exchange.Report.{Report}
use Rattle.ccp_base.specs.declared.place.Place.{Place}
use Rattle.ccp_base.proofs.DecimalLemmas.{joined, joined-append}
use Rattle.portus_build.specs.RefusalText.{refusal_text}
use Rattle.flow_core.specs.World.{Era, Failure}
use Rattle.flow_core.specs.declared.book.EpochLine.{EpochLine}
use Rattle.flow_core.specs.Books.{epoch_line}
use Rattle.scene_members.specs.declared.open_case.OpenCase.{OpenCase}
use Rattle.open_flow.specs.OpenWorld.{Installed, OpenWorld, eras_of}
use Rattle.live_install.specs.RolloutText.{OpenAccount, account_of, flow_line, entry_line, entry_lines, refused_head, change_line, change_lines, fault_lines, shown_lines, last_line, open_part}
use Rattle.live_install.proofs.DigitLemmas.{same-front}
use Rattle.live_install.proofs.WorldCountLemmas.{starts, starts_of}

-- ---- pieces

-- what follows equal pieces
followed : (pieces : List (List ℕ)) (x y : List ℕ) → joined pieces x ≡ joined pieces y → x ≡ y
followed [] x y same = same
followed (piece ∷ pieces) x y same = followed pieces x y (append_cancel_left piece (joined pieces x) (joined pieces y) same)

-- ---- numbers that 64 bits hold

abbrev pub AreSmall : List ℕ → Type 0
AreSmall [] = ⊤
AreSmall (n ∷ rest) = (n < 2 ^ 64) × AreSmall rest

-- ---- entries

entry-read : (step at bt : ℕ) (entry : Installed) (x y : List ℕ) → at < 2 ^ 64 → bt < 2 ^ 64
    → entry_line step at entry ++ x ≡ entry_line step bt entry ++ y → (at ≡ bt) × (x ≡ y)
entry-read step at bt (Ok form) x y small other same =
    let head = codes "step " ∷ decimal step ∷ codes " installed at=" ∷ [] in
    let flat : joined head (decimal at ++ 10 ∷ x) ≡ joined head (decimal bt ++ 10 ∷ y) =
    sym (joined-append (codes "step " ∷ decimal step ∷ codes " installed at=" ∷ decimal at ∷ []) (codes "\n") x)
    ∙ same
    ∙ joined-append (codes "step " ∷ decimal step ∷ codes " installed at=" ∷ decimal bt ∷ []) (codes "\n") y in
    let read = same-front at bt 10 10 x y refl refl (followed head (decimal at ++ 10 ∷ x) (decimal bt ++ 10 ∷ y) flat) in
    (decimal_injective at bt small other read.0, ap (drop 1) read.1)
entry-read step at bt (Err refusal) x y small other same =
    let head = codes "step " ∷ decimal step ∷ codes " refused at=" ∷ [] in
    let tail : List ℕ = refusal_text refusal ++ codes "\n" in
    let flat : joined head (decimal at ++ 32 ∷ (tail ++ x)) ≡ joined head (decimal bt ++ 32 ∷ (tail ++ y)) =
    sym (joined-append (codes "step " ∷ decimal step ∷ codes " refused at=" ∷ decimal at ∷ []) (codes " ") (tail ++ x))
    ∙ sym (append_assoc (refused_head step at) tail x)
    ∙ same
    ∙ append_assoc (refused_head step bt) tail y
    ∙ joined-append (codes "step " ∷ decimal step ∷ codes " refused at=" ∷ decimal bt ∷ []) (codes " ") (tail ++ y) in
    let read = same-front at bt 32 32 (tail ++ x) (tail ++ y) refl refl
    (followed head (decimal at ++ 32 ∷ (tail ++ x)) (decimal bt ++ 32 ∷ (tail ++ y)) flat) in
    (decimal_injective at bt small other read.0, append_cancel_left tail x y (ap (drop 1) read.1))

entries-read : (step : ℕ) (ns ms : List ℕ) (entries : List Installed) (x y : List ℕ) → length ns ≡ length entries → length ms ≡ length entries
    → AreSmall ns → AreSmall ms → entry_lines step ns entries ++ x ≡ entry_lines step ms entries ++ y → (ns ≡ ms) × (x ≡ y)
entries-read step [] [] [] x y left right small other same = (refl, same)
entries-read step [] (m ∷ ms) [] x y left right small other same = absurd (omega (arith, right))
entries-read step (n ∷ ns) ms [] x y left right small other same = absurd (omega (arith, left))
entries-read step [] ms (entry ∷ entries) x y left right small other same = absurd (omega (arith, left))
entries-read step (n ∷ ns) [] (entry ∷ entries) x y left right small other same = absurd (omega (arith, right))
entries-read step (n ∷ ns) (m ∷ ms) (entry ∷ entries) x y left right small other same =
    let first = entry-read step n m entry (entry_lines (step + 1) ns entries ++ x) (entry_lines (step + 1) ms entries ++ y) small.0 other.0
    (sym (append_assoc (entry_line step n entry) (entry_lines (step + 1) ns entries) x)
    ∙ same
    ∙ append_assoc (entry_line step m entry) (entry_lines (step + 1) ms entries) y) in
    let rest = entries-read (step + 1) ns ms entries x y (omega (arith, left)) (omega (arith, right)) small.1 other.1 first.1 in
    ((λ i. first.0 i ∷ rest.0 i), rest.1)

-- ---- changes

-- the line of a change comes next
abbrev is_change : List ℕ → Bool
is_change [] = false
is_change (a ∷ []) = false
is_change (a ∷ b ∷ rest) = (a == 101) && (b == 112)

abbrev ats : List EpochLine → List ℕ
ats epochs = map (λ (epoch : EpochLine). epoch.at) epochs

abbrev change_head : ℕ → List (List ℕ)
change_head number = codes "epoch " ∷ decimal number ∷ codes " step=" ∷ []

-- what follows the step of a change
abbrev after_step : EpochLine → List ℕ → List ℕ
after_step epoch x = 32 ∷ (codes "at=" ++ (decimal epoch.at ++ 32 ∷ (codes "cwnd=" ++ (decimal epoch.cwnd ++ 10 ∷ x))))

change-flat : (number : ℕ) (epoch : EpochLine) (x : List ℕ)
    → change_line number epoch ++ x ≡ joined (change_head number) (decimal epoch.program ++ after_step epoch x)
change-flat number epoch x =
    joined-append
    (codes "epoch " ∷ decimal number ∷ codes " step=" ∷ decimal epoch.program ∷ codes " at=" ∷ decimal epoch.at ∷ codes " cwnd=" ∷ decimal epoch.cwnd ∷ [])
    (codes "\n") x

change-read : (number : ℕ) (epoch other : EpochLine) (x y : List ℕ) → epoch.at < 2 ^ 64 → other.at < 2 ^ 64
    → change_line number epoch ++ x ≡ change_line number other ++ y → (epoch.at ≡ other.at) × (x ≡ y)
change-read number epoch other x y small other_small same =
    let steps = same-front epoch.program other.program 32 32 _ _ refl refl
    (followed (change_head number) (decimal epoch.program ++ after_step epoch x) (decimal other.program ++ after_step other y)
    (sym (change-flat number epoch x) ∙ same ∙ change-flat number other y)) in
    let counts = same-front epoch.at other.at 32 32 (codes "cwnd=" ++ (decimal epoch.cwnd ++ 10 ∷ x)) (codes "cwnd=" ++ (decimal other.cwnd ++ 10 ∷ y)) refl refl
    (ap (drop 4) steps.1) in
    let windows = same-front epoch.cwnd other.cwnd 10 10 x y refl refl (ap (drop 6) counts.1) in
    (decimal_injective epoch.at other.at small other_small counts.0, ap (drop 1) windows.1)

changes-read : (number : ℕ) (epochs others : List EpochLine) (x y : List ℕ) → AreSmall (ats epochs) → AreSmall (ats others)
    → is_change x ≡ false → is_change y ≡ false → change_lines number epochs ++ x ≡ change_lines number others ++ y → ats epochs ≡ ats others
changes-read number [] [] x y small other none none_there same = refl
changes-read number [] (epoch ∷ rest) x y small other none none_there same =
    absurd (let wrong : false ≡ true = sym none ∙ ap is_change same in (cc))
changes-read number (epoch ∷ rest) [] x y small other none none_there same =
    absurd (let wrong : true ≡ false = ap is_change same ∙ none_there in (cc))
changes-read number (epoch ∷ rest) (there ∷ others) x y small other none none_there same =
    let first = change-read number epoch there (change_lines (number + 1) rest ++ x) (change_lines (number + 1) others ++ y) small.0 other.0
    (sym (append_assoc (change_line number epoch) (change_lines (number + 1) rest) x)
    ∙ same
    ∙ append_assoc (change_line number there) (change_lines (number + 1) others) y) in
    let later = changes-read (number + 1) rest others x y small.1 other.1 none none_there first.1 in
    λ i. first.0 i ∷ later i

-- what comes after the changes is no change
abbrev after_changes : OpenAccount → List ℕ
after_changes account = fault_lines account.faults ++ (shown_lines account.entries account.reports ++ last_line account)

no-change : (faults : List (Failure Place)) (entries : List Installed) (reports : List Report) (account : OpenAccount) (x : List ℕ)
    → is_change ((fault_lines faults ++ (shown_lines entries reports ++ last_line account)) ++ x) ≡ false
no-change [] entries [] account x = refl
no-change [] entries (report ∷ rest) account x = refl
no-change (failure ∷ rest) entries reports account x = refl

-- ---- a part

ats-starts : (eras : List Era) → ats (map epoch_line eras) ≡ starts eras
ats-starts [] = refl
ats-starts (era ∷ rest) = ap (λ (ns : List ℕ). era.at ∷ ns) (ats-starts rest)

-- a part is its flow, its entries, its changes and the rest
part-flat : (case : OpenCase) (w : OpenWorld) (x : List ℕ)
    → open_part case w ++ x ≡ flow_line case.flow case.name ++ (entry_lines 0 w.installed w.entries
    ++ (change_lines 0 (map epoch_line (eras_of w)) ++ (after_changes (account_of case w) ++ x)))
part-flat case w x =
    joined-append (flow_line case.flow case.name ∷ entry_lines 0 w.installed w.entries ∷ change_lines 0 (map epoch_line (eras_of w)) ∷ [])
    (after_changes (account_of case w)) x

pub part-read : (case : OpenCase) (w v : OpenWorld) (x y : List ℕ) → v.entries ≡ w.entries
    → length w.installed ≡ length w.entries → length v.installed ≡ length w.entries
    → AreSmall w.installed → AreSmall v.installed → AreSmall (starts_of w) → AreSmall (starts_of v)
    → open_part case w ++ x ≡ open_part case v ++ y → (w.installed ≡ v.installed) × (starts_of w ≡ starts_of v)
part-read case w v x y same_entries left right small other starts_small starts_other same =
    let changes = change_lines 0 (map epoch_line (eras_of w)) ++ (after_changes (account_of case w) ++ x) in
    let there = change_lines 0 (map epoch_line (eras_of v)) ++ (after_changes (account_of case v) ++ y) in
    let lines : entry_lines 0 w.installed w.entries ++ changes ≡ entry_lines 0 v.installed w.entries ++ there =
    append_cancel_left (flow_line case.flow case.name) (entry_lines 0 w.installed w.entries ++ changes) (entry_lines 0 v.installed v.entries ++ there)
    (sym (part-flat case w x) ∙ same ∙ part-flat case v y)
    ∙ ap (λ (entries : List Installed). entry_lines 0 v.installed entries ++ there) same_entries in
    let entries = entries-read 0 w.installed v.installed w.entries changes there left right small other lines in
    let is = ats-starts (eras_of w) in
    let is_there = ats-starts (eras_of v) in
    let counts = changes-read 0 (map epoch_line (eras_of w)) (map epoch_line (eras_of v)) (after_changes (account_of case w) ++ x) (after_changes (account_of case v) ++ y)
    (subst AreSmall (sym is) starts_small) (subst AreSmall (sym is_there) starts_other)
    (no-change w.faults w.entries w.reports (account_of case w) x) (no-change v.faults v.entries v.reports (account_of case v) y) entries.1 in
    (entries.0, sym is ∙ counts ∙ is_there)

-- Lines of a scenario's text: what follows bytes without a line feed, and what ends the text.
use Rattle.std.proofs.Common.{◌≡◌, ◌≢◌, ◌⊎◌, inl, inr, ℕ, zero, suc, ◌<◌, ◌≤◌, Bool, true, false, Option, Some, None, List, [], ◌∷◌, ◌++◌, length, take, drop, slice_index, refl, ap, sym, ◌∙◌, arith, cond, if◌then◌else◌, eqb, append_assoc, append-nil, length-append}
use Rattle.std.proofs.Math.Seq.{take-length}
use Rattle.std.proofs.lemmas.Option.{same_Some, none-some}
use Rattle.std.proofs.lemmas.Slice.Eq.{bytes_eq-Decides, starts_is}
use Rattle.std.proofs.lemmas.Bool.Decides.{Decides-eqb, nat_tests}
use Rattle.std.proofs.lemmas.Bool.{false_from_ne_true}
use Rattle.std.specs.Bool.{OnTrue, OnFalse}
use Rattle.std.specs.List.{starts_with}
use Rattle.ccp_base.specs.declared.parts.Separator.TheVariants.{LineFeed}
use Rattle.ccp_base.specs.Parts.{separates, without_last}
use Rattle.fold_run.specs.FirstPart.{first_of}
use Rattle.fold_run.specs.Separated.{is_separator}
use Rattle.driven_flow.specs.Front.{with_front, divided_from, DividedGoesOn}
use Rattle.driven_flow.specs.FrontLines.{longest_separator, IsOther, GoesOn, IsUndecided}

abbrev pub Parted : Type 0
Parted = Option (List ℕ × List ℕ)

-- ---- bytes at the front

pub front-none : (parted : Parted) → with_front [] parted ≡ parted
front-none None = refl
front-none (Some p) = refl

pub front-twice : (first next : List ℕ) (parted : Parted) → with_front first (with_front next parted) ≡ with_front (first ++ next) parted
front-twice first next None = refl
front-twice first next (Some p) = ap (λ text. Some (text, p.1)) (sym (append_assoc first next p.0))

-- ---- one byte

-- what a line feed does after a line
abbrev pub fed_line : List ℕ → List ℕ → List ℕ → Parted
fed_line line feed rest = if is_separator line then Some ([], rest) else with_front (line ++ feed) (divided_from [] rest)

pub at-feed : (line : List ℕ) (byte : ℕ) (rest : List ℕ) → separates LineFeed byte ≡ true → divided_from line (byte ∷ rest) ≡ fed_line line (byte ∷ []) rest
at-feed line byte rest is = ap (λ b. cond b (fed_line line (byte ∷ []) rest) (divided_from (line ++ byte ∷ []) rest)) is

pub at-other : (line : List ℕ) (byte : ℕ) (rest : List ℕ) → separates LineFeed byte ≡ false → divided_from line (byte ∷ rest) ≡ divided_from (line ++ byte ∷ []) rest
at-other line byte rest is = ap (λ b. cond b (fed_line line (byte ∷ []) rest) (divided_from (line ++ byte ∷ []) rest)) is

pub fed-true : (line feed rest : List ℕ) → is_separator line ≡ true → fed_line line feed rest ≡ Some ([], rest)
fed-true line feed rest is = ap (λ b. cond b (Some ([], rest)) (with_front (line ++ feed) (divided_from [] rest))) is

pub fed-false : (line feed rest : List ℕ) → is_separator line ≡ false → fed_line line feed rest ≡ with_front (line ++ feed) (divided_from [] rest)
fed-false line feed rest is = ap (λ b. cond b (Some ([], rest)) (with_front (line ++ feed) (divided_from [] rest))) is

-- ---- bytes up to a line feed

-- bytes without a line feed lengthen their line
pub past-bytes : (line part more : List ℕ) → first_of LineFeed part ≡ part → divided_from line (part ++ more) ≡ divided_from (line ++ part) more
past-bytes line [] more free = ap (λ l. divided_from l more) (sym (append-nil line))
past-bytes line (byte ∷ rest) more free = go (past-bytes (line ++ byte ∷ []) rest more) (separates LineFeed byte) refl
  where
    go : (first_of LineFeed rest ≡ rest → divided_from (line ++ byte ∷ []) (rest ++ more) ≡ divided_from ((line ++ byte ∷ []) ++ rest) more) → (b : Bool) → separates LineFeed byte ≡ b → divided_from line ((byte ∷ rest) ++ more) ≡ divided_from (line ++ byte ∷ rest) more
    go later true is = let none : [] ≡ byte ∷ rest = sym (ap (λ b. cond b [] (byte ∷ first_of LineFeed rest)) is) ∙ free in cc
    go later false is =
        let some : byte ∷ first_of LineFeed rest ≡ byte ∷ rest = sym (ap (λ b. cond b [] (byte ∷ first_of LineFeed rest)) is) ∙ free in
        let free_rest : first_of LineFeed rest ≡ rest = cc in
        at-other line byte (rest ++ more) is
        ∙ later free_rest
        ∙ ap (λ l. divided_from l more) (append_assoc line (byte ∷ []) rest)

-- bytes of which none is a line feed
pub no-feed : (text : List ℕ) → ((k : ℕ) → 0 ≤ k → k < length text → eqb (slice_index text k) 10 ≢ true) → first_of LineFeed text ≡ text
no-feed [] none = refl
no-feed (byte ∷ rest) none =
    ap (λ b. cond b [] (byte ∷ first_of LineFeed rest)) (false_from_ne_true (eqb byte 10) (none 0 (omega arith) (omega arith)))
    ∙ ap (λ xs. byte ∷ xs) (no-feed rest (λ k low high. none (suc k) (omega arith) (omega arith)))

-- bytes up to their first line feed end their line
to-feed : (line text more : List ℕ) (at : ℕ) → at < length text → ((k : ℕ) → 0 ≤ k → k < at → eqb (slice_index text k) 10 ≢ true) → eqb (slice_index text at) 10 ≡ true
    → (b : Bool) → is_separator (line ++ take at text) ≡ b
    → divided_from line (take (suc at) text ++ more) ≡ cond b (Some ([], more)) (with_front (line ++ take (suc at) text) (divided_from [] more))
to-feed line [] more at within before is b sep = absurd (omega arith)
to-feed line (byte ∷ rest) more zero within before is b sep = go b (ap is_separator (sym (append-nil line)) ∙ sep)
  where
    go : (b : Bool) → is_separator line ≡ b → divided_from line (byte ∷ more) ≡ cond b (Some ([], more)) (with_front (line ++ byte ∷ []) (divided_from [] more))
    go true sep = at-feed line byte more is ∙ fed-true line (byte ∷ []) more sep
    go false sep = at-feed line byte more is ∙ fed-false line (byte ∷ []) more sep
to-feed line (byte ∷ rest) more (suc at) within before is b sep =
    let other : eqb byte 10 ≡ false = false_from_ne_true (eqb byte 10) (before 0 (omega arith) (omega arith)) in
    at-other line byte (take (suc at) rest ++ more) other
    ∙ to-feed (line ++ byte ∷ []) rest more at (omega arith) (λ k low high. before (suc k) (omega arith) (omega arith)) is b
    (ap is_separator (append_assoc line (byte ∷ []) (take at rest)) ∙ sep)
    ∙ ap (λ l. cond b (Some ([], more)) (with_front l (divided_from [] more))) (append_assoc line (byte ∷ []) (take (suc at) rest))

-- a whole line other than `---` belongs to the text
pub goes-on : (line text : List ℕ) (at : ℕ) → at < length text → ((k : ℕ) → 0 ≤ k → k < at → eqb (slice_index text k) 10 ≢ true) → eqb (slice_index text at) 10 ≡ true
    → is_separator (line ++ take at text) ≡ false → GoesOn line text (suc at) false
goes-on line text at within before is sep = record {
  whole = line ++ take (suc at) text;
  line' = [];
  parts = sym (append-nil (line ++ take (suc at) text));
  inside_is = refl;
  goes = λ more. to-feed line text more at within before is false sep;
}

-- so does a part of such a line
pub goes-within : (line part : List ℕ) → first_of LineFeed part ≡ part → IsOther (line ++ part) → GoesOn line part (length part) true
goes-within line part free other = record {
  whole = [];
  line' = line ++ part;
  parts = ap (λ l. line ++ l) (take-length part);
  inside_is = other;
  goes = λ more.
      ap (λ l. divided_from line (l ++ more)) (take-length part)
      ∙ past-bytes line part more free
      ∙ sym (front-none (divided_from (line ++ part) more));
}

-- bytes behind those of another line
pub other-further : (line part : List ℕ) → IsOther line → IsOther (line ++ part)
other-further line part other more = ap is_separator (append_assoc line part more) ∙ other (part ++ more)

pub other-first : (line part : List ℕ) → line ≡ [] → IsOther part → IsOther (line ++ part)
other-first line part first other more = ap (λ l. is_separator ((l ++ part) ++ more)) first ∙ other more

-- ---- what may become the line `---`

pub none-long : (bytes : List ℕ) → eqb (length bytes) 0 ≡ true → bytes ≡ []
none-long [] is = refl
none-long (byte ∷ rest) is = let same : suc (length rest) ≡ 0 = grind (arith, nat_tests, is) in absurd (omega (arith, same))

pub undecided-none : (line part : List ℕ) → part ≡ [] → IsUndecided line part
undecided-none line part none = record {
  none = ap (divided_from line) none;
  cause = inl none;
}

ended : divided_from [] (longest_separator ++ 10 ∷ []) ≡ Some ([], [])
ended = refl

pub undecided-line : (line part rest : List ℕ) → line ≡ [] → first_of LineFeed part ≡ part → longest_separator ≡ part ++ rest → IsUndecided line part
undecided-line line part rest first free longest = record {
  none = ap (divided_from line) (sym (append-nil part)) ∙ past-bytes line part [] free;
  cause = inr (record {
    more = rest ++ 10 ∷ [];
    ends =
        ap (divided_from line) (sym (append_assoc part rest (10 ∷ [])))
        ∙ ap (λ l. divided_from line (l ++ 10 ∷ [])) (sym longest)
        ∙ ap (λ l. divided_from l (longest_separator ++ 10 ∷ [])) first
        ∙ ended;
  });
}

-- a line without a CR at its end is the line, or the line has one
without-return : (line : List ℕ) → (without_last 13 line ≡ line) ⊎ (line ≡ without_last 13 line ++ 13 ∷ [])
without-return [] = inl refl
without-return (byte ∷ []) = go (eqb byte 13) refl
  where
    go : (b : Bool) → eqb byte 13 ≡ b → (without_last 13 (byte ∷ []) ≡ byte ∷ []) ⊎ (byte ∷ [] ≡ without_last 13 (byte ∷ []) ++ 13 ∷ [])
    go true is =
        let same : byte ≡ 13 = grind (arith, nat_tests, is) in
        inr (ap (λ b. b ∷ []) same ∙ sym (ap (λ b. cond b [] (byte ∷ []) ++ 13 ∷ []) is))
    go false is = inl (ap (λ b. cond b [] (byte ∷ [])) is)
without-return (byte ∷ next ∷ rest) = go (without-return (next ∷ rest))
  where
    go : (without_last 13 (next ∷ rest) ≡ next ∷ rest) ⊎ (next ∷ rest ≡ without_last 13 (next ∷ rest) ++ 13 ∷ [])
        → (without_last 13 (byte ∷ next ∷ rest) ≡ byte ∷ next ∷ rest) ⊎ (byte ∷ next ∷ rest ≡ without_last 13 (byte ∷ next ∷ rest) ++ 13 ∷ [])
    go (inl same) = inl (ap (λ l. byte ∷ l) same)
    go (inr ends) = inr (ap (λ l. byte ∷ l) ends)

-- a line `---`
pub separator-line : (line : List ℕ) → is_separator line ≡ true → (line ≡ 45 ∷ 45 ∷ 45 ∷ []) ⊎ (line ≡ longest_separator)
separator-line line sep = go (without-return line)
  where
    marks : without_last 13 line ≡ 45 ∷ 45 ∷ 45 ∷ []
    marks = (bytes_eq-Decides (without_last 13 line) (45 ∷ 45 ∷ 45 ∷ [])).0 sep

    go : (without_last 13 line ≡ line) ⊎ (line ≡ without_last 13 line ++ 13 ∷ []) → (line ≡ 45 ∷ 45 ∷ 45 ∷ []) ⊎ (line ≡ longest_separator)
    go (inl same) = inl (sym same ∙ marks)
    go (inr ends) = inr (ends ∙ ap (λ l. l ++ 13 ∷ []) marks)

-- the longest line `---` begins with bytes that it may begin with
pub may-separate : (bytes longest : List ℕ) (may : Bool) → longest ≡ longest_separator → may ≡ starts_with eqb longest bytes
    → OnTrue may (longest_separator ≡ bytes ++ drop (length bytes) longest_separator)
may-separate bytes longest false long is = tt
may-separate bytes longest true long is = (starts_is Decides-eqb longest_separator bytes true (is ∙ ap (λ l. starts_with eqb l bytes) long)).0 refl

pub may-few : (bytes : List ℕ) (may : Bool) → OnTrue may (longest_separator ≡ bytes ++ drop (length bytes) longest_separator) → OnTrue may (length bytes ≤ 4)
may-few bytes false begins = tt
may-few bytes true begins =
    let count : 4 ≡ length (bytes ++ drop (length bytes) longest_separator) = ap length begins in
    omega (arith, count, length-append bytes (drop (length bytes) longest_separator))

-- other bytes begin another line
pub may-not : (bytes longest : List ℕ) (may : Bool) → longest ≡ longest_separator → may ≡ starts_with eqb longest bytes → OnFalse may (IsOther bytes)
may-not bytes longest true long is = tt
may-not bytes longest false long is = λ more. go more (is_separator (bytes ++ more)) refl
  where
    front : (rest : List ℕ) → longest_separator ≡ bytes ++ rest → ⊥
    front rest begins = let is_so : false ≡ true = (starts_is Decides-eqb longest_separator bytes false (is ∙ ap (λ l. starts_with eqb l bytes) long)).1 rest begins in cc

    by : (more : List ℕ) → (bytes ++ more ≡ 45 ∷ 45 ∷ 45 ∷ []) ⊎ (bytes ++ more ≡ longest_separator) → ⊥
    by more (inl short) = front (more ++ 13 ∷ []) (ap (λ l. l ++ 13 ∷ []) (sym short) ∙ append_assoc bytes more (13 ∷ []))
    by more (inr long) = front more (sym long)

    go : (more : List ℕ) (b : Bool) → is_separator (bytes ++ more) ≡ b → is_separator (bytes ++ more) ≡ false
    go more false sep = sep
    go more true sep = absurd (by more (separator-line (bytes ++ more) sep))

-- ---- the whole text

-- a text that begins within a line which isn't `---` has that line's bytes at its front
pub longer-text : (line bytes text rest : List ℕ) → IsOther line → divided_from line bytes ≡ Some (text, rest) → length line ≤ length text
longer-text line [] text rest other is = absurd (none-some (text, rest) is)
longer-text line (byte ∷ bytes) text rest other is = go (longer-text (line ++ byte ∷ []) bytes text rest) (separates LineFeed byte) refl
  where
    fed : (parted : Parted) → with_front (line ++ byte ∷ []) parted ≡ Some (text, rest) → length line ≤ length text
    fed None is = absurd (none-some (text, rest) is)
    fed (Some p) is =
        let same : (line ++ byte ∷ []) ++ p.0 ≡ text = ap (λ (q : List ℕ × List ℕ). q.0) (same_Some ((line ++ byte ∷ []) ++ p.0, p.1) (text, rest) is) in
        let count : length ((line ++ byte ∷ []) ++ p.0) ≡ length text = ap length same in
        omega (arith, count, length-append (line ++ byte ∷ []) p.0, length-append line (byte ∷ []))

    go : (IsOther (line ++ byte ∷ []) → divided_from (line ++ byte ∷ []) bytes ≡ Some (text, rest) → length (line ++ byte ∷ []) ≤ length text) → (b : Bool) → separates LineFeed byte ≡ b → length line ≤ length text
    go later true sep =
        let no : is_separator line ≡ false = ap is_separator (sym (append-nil line)) ∙ other [] in
        fed (divided_from [] bytes) (sym (at-feed line byte bytes sep ∙ fed-false line (byte ∷ []) bytes no) ∙ is)
    go later false sep =
        let more : length (line ++ byte ∷ []) ≤ length text = later (other-further line (byte ∷ []) other) (sym (at-other line byte bytes sep) ∙ is) in
        omega (arith, more, length-append line (byte ∷ []))

-- what follows is after the rest
pub goes-further : (line bytes more text rest : List ℕ) → divided_from line bytes ≡ Some (text, rest) → divided_from line (bytes ++ more) ≡ Some (text, rest ++ more)
goes-further line [] more text rest is = absurd (none-some (text, rest) is)
goes-further line (byte ∷ bytes) more text rest is = go (goes-further [] bytes more) (goes-further (line ++ byte ∷ []) bytes more text rest) (separates LineFeed byte) refl
  where
    Later : Type 0
    Later = (text rest : List ℕ) → divided_from [] bytes ≡ Some (text, rest) → divided_from [] (bytes ++ more) ≡ Some (text, rest ++ more)

    fed : Later → (parted : Parted) → divided_from [] bytes ≡ parted
        → with_front (line ++ byte ∷ []) parted ≡ Some (text, rest) → with_front (line ++ byte ∷ []) (divided_from [] (bytes ++ more)) ≡ Some (text, rest ++ more)
    fed later None whole is = absurd (none-some (text, rest) is)
    fed later (Some p) whole is =
        ap (with_front (line ++ byte ∷ [])) (later p.0 p.1 whole)
        ∙ ap (λ (q : List ℕ × List ℕ). Some (q.0, q.1 ++ more)) (same_Some ((line ++ byte ∷ []) ++ p.0, p.1) (text, rest) is)

    ends : Later → (b : Bool) → is_separator line ≡ b → fed_line line (byte ∷ []) bytes ≡ Some (text, rest) → fed_line line (byte ∷ []) (bytes ++ more) ≡ Some (text, rest ++ more)
    ends later true sep is =
        let here = same_Some ([], bytes) (text, rest) (sym (fed-true line (byte ∷ []) bytes sep) ∙ is) in
        fed-true line (byte ∷ []) (bytes ++ more) sep ∙ ap (λ (q : List ℕ × List ℕ). Some (q.0, q.1 ++ more)) here
    ends later false sep is =
        fed-false line (byte ∷ []) (bytes ++ more) sep
        ∙ fed later (divided_from [] bytes) refl (sym (fed-false line (byte ∷ []) bytes sep) ∙ is)

    go : Later → (divided_from (line ++ byte ∷ []) bytes ≡ Some (text, rest) → divided_from (line ++ byte ∷ []) (bytes ++ more) ≡ Some (text, rest ++ more)) → (b : Bool) → separates LineFeed byte ≡ b
        → divided_from line (byte ∷ bytes ++ more) ≡ Some (text, rest ++ more)
    go first later true sep = at-feed line byte (bytes ++ more) sep ∙ ends first (is_separator line) refl (sym (at-feed line byte bytes sep) ∙ is)
    go first later false sep = at-other line byte (bytes ++ more) sep ∙ later (sym (at-other line byte bytes sep) ∙ is)

pub divided-goes-on : DividedGoesOn
divided-goes-on bytes more text rest is = goes-further [] bytes more text rest is

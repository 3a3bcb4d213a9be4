-- That a stream is divided at its first line `---`.
use Rattle.std.proofs.Common.{◌≡◌, ◌⊎◌, inl, inr, ℕ, ◌+◌, Bool, true, false, Some, None, List, [], ◌∷◌, ◌++◌, length, refl, ap, sym, subst, ◌∙◌, arith, append_assoc, append-nil, length-append}
use Rattle.std.proofs.lemmas.Option.{same_Some, none-some}
use Rattle.std.proofs.lemmas.Bool.Decides.{nat_tests}
use Rattle.ccp_base.specs.declared.parts.Separator.TheVariants.{LineFeed}
use Rattle.ccp_base.specs.Parts.{separates}
use Rattle.fold_run.specs.Separated.{is_separator}
use Rattle.driven_flow.specs.Front.{with_front, divided_from, divided, is_ended, HasSeparator, DividesBy, DividedAtSeparator, DividedAtFirst}
use Rattle.driven_flow.specs.FrontLines.{longest_separator}
use Rattle.driven_flow.proofs.FrontLineLemmas.{Parted, front-none, front-twice, fed_line, at-feed, at-other, fed-true, fed-false, goes-further, separator-line}

-- ---- whole lines

ended-feed : (line : List ℕ) (byte : ℕ) → is_ended (line ++ byte ∷ []) ≡ separates LineFeed byte
ended-feed [] byte = refl
ended-feed (x ∷ []) byte = refl
ended-feed (x ∷ y ∷ rest) byte = ended-feed (y ∷ rest) byte

ended-next : (front : List ℕ) (byte : ℕ) (rest : List ℕ) → is_ended (front ++ byte ∷ rest) ≡ is_ended (byte ∷ rest)
ended-next [] byte rest = refl
ended-next (x ∷ []) byte rest = refl
ended-next (x ∷ y ∷ front) byte rest = ended-next (y ∷ front) byte rest

ended-both : (front text : List ℕ) → is_ended front ≡ true → is_ended text ≡ true → is_ended (front ++ text) ≡ true
ended-both front [] first next = ap is_ended (append-nil front) ∙ first
ended-both front (byte ∷ rest) first next = ended-next front byte rest ∙ next

-- ---- at a separator

separated-from : (line bytes text rest : List ℕ) → divided_from line bytes ≡ Some (text, rest) → HasSeparator (line ++ bytes) text rest
separated-from line [] text rest is = absurd (none-some (text, rest) is)
separated-from line (byte ∷ bytes) text rest is = go (separated-from [] bytes) (separated-from (line ++ byte ∷ []) bytes text rest) (separates LineFeed byte) refl
  where
    Later : Type 0
    Later = (text rest : List ℕ) → divided_from [] bytes ≡ Some (text, rest) → HasSeparator bytes text rest

    fed : Later → separates LineFeed byte ≡ true → (parted : Parted) → divided_from [] bytes ≡ parted → with_front (line ++ byte ∷ []) parted ≡ Some (text, rest) → HasSeparator (line ++ byte ∷ bytes) text rest
    fed later feed None whole is = absurd (none-some (text, rest) is)
    fed later feed (Some p) whole is =
        let front : List ℕ = line ++ byte ∷ [] in
        let there = later p.0 p.1 whole in
        subst (λ (q : List ℕ × List ℕ). HasSeparator (line ++ byte ∷ bytes) q.0 q.1) (same_Some (front ++ p.0, p.1) (text, rest) is) (record {
          line = there.line;
          separator = there.separator;
          whole =
              sym (append_assoc line (byte ∷ []) bytes)
              ∙ ap (λ xs. front ++ xs) there.whole
              ∙ sym (append_assoc front (p.0 ++ there.line) (10 ∷ p.1))
              ∙ ap (λ xs. xs ++ 10 ∷ p.1) (sym (append_assoc front p.0 there.line));
          ended = ended-both front p.0 (ended-feed line byte ∙ feed) there.ended;
        })

    ends : Later → separates LineFeed byte ≡ true → (b : Bool) → is_separator line ≡ b → fed_line line (byte ∷ []) bytes ≡ Some (text, rest) → HasSeparator (line ++ byte ∷ bytes) text rest
    ends later feed true sep is =
        let same : byte ≡ 10 = grind (arith, nat_tests, feed) in
        subst (λ (q : List ℕ × List ℕ). HasSeparator (line ++ byte ∷ bytes) q.0 q.1) (same_Some ([], bytes) (text, rest) (sym (fed-true line (byte ∷ []) bytes sep) ∙ is)) (record {
          line = line;
          separator = sep;
          whole = ap (λ b. line ++ b ∷ bytes) same;
          ended = refl;
        })
    ends later feed false sep is = fed later feed (divided_from [] bytes) refl (sym (fed-false line (byte ∷ []) bytes sep) ∙ is)

    go : Later → (divided_from (line ++ byte ∷ []) bytes ≡ Some (text, rest) → HasSeparator ((line ++ byte ∷ []) ++ bytes) text rest) → (b : Bool) → separates LineFeed byte ≡ b → HasSeparator (line ++ byte ∷ bytes) text rest
    go first later true feed = ends first feed (is_separator line) refl (sym (at-feed line byte bytes feed) ∙ is)
    go first later false feed =
        subst (λ (xs : List ℕ). HasSeparator xs text rest) (append_assoc line (byte ∷ []) bytes) (later (sym (at-other line byte bytes feed) ∙ is))

pub divided-at-separator : DividedAtSeparator
divided-at-separator bytes text rest is = separated-from [] bytes text rest is

-- ---- at the first one

-- whole lines, none of which is `---`, come before the text of what follows
past-lines : (line : List ℕ) (byte : ℕ) (rest more : List ℕ) → divided_from line (byte ∷ rest) ≡ None → is_ended (byte ∷ rest) ≡ true
    → divided_from line ((byte ∷ rest) ++ more) ≡ with_front (line ++ byte ∷ rest) (divided more)
past-lines line byte [] more none ended = go (is_separator line) refl
  where
    go : (b : Bool) → is_separator line ≡ b → divided_from line (byte ∷ more) ≡ with_front (line ++ byte ∷ []) (divided more)
    go true sep = absurd (none-some ([], []) (sym none ∙ at-feed line byte [] ended ∙ fed-true line (byte ∷ []) [] sep))
    go false sep = at-feed line byte more ended ∙ fed-false line (byte ∷ []) more sep
past-lines line byte (next ∷ rest) more none ended = go (past-lines [] next rest more) (past-lines (line ++ byte ∷ []) next rest more) (separates LineFeed byte) refl
  where
    tail : List ℕ
    tail = next ∷ rest

    Later : List ℕ → Type 0
    Later line = divided_from line tail ≡ None → is_ended tail ≡ true → divided_from line (tail ++ more) ≡ with_front (line ++ tail) (divided more)

    still-none : (front : List ℕ) (parted : Parted) → with_front front parted ≡ None → parted ≡ None
    still-none front None is = refl
    still-none front (Some p) is = absurd (none-some (front ++ p.0, p.1) (sym is))

    ends : Later [] → separates LineFeed byte ≡ true → (b : Bool) → is_separator line ≡ b → fed_line line (byte ∷ []) tail ≡ None → fed_line line (byte ∷ []) (tail ++ more) ≡ with_front (line ++ byte ∷ tail) (divided more)
    ends later feed true sep is = absurd (none-some ([], tail) (sym is ∙ fed-true line (byte ∷ []) tail sep))
    ends later feed false sep is =
        let none : divided_from [] tail ≡ None = still-none (line ++ byte ∷ []) (divided_from [] tail) (sym (fed-false line (byte ∷ []) tail sep) ∙ is) in
        fed-false line (byte ∷ []) (tail ++ more) sep
        ∙ ap (with_front (line ++ byte ∷ [])) (later none ended)
        ∙ front-twice (line ++ byte ∷ []) tail (divided more)
        ∙ ap (λ xs. with_front xs (divided more)) (append_assoc line (byte ∷ []) tail)

    go : Later [] → Later (line ++ byte ∷ []) → (b : Bool) → separates LineFeed byte ≡ b → divided_from line (byte ∷ tail ++ more) ≡ with_front (line ++ byte ∷ tail) (divided more)
    go first later true feed = at-feed line byte (tail ++ more) feed ∙ ends first feed (is_separator line) refl (sym (at-feed line byte tail feed) ∙ none)
    go first later false feed =
        at-other line byte (tail ++ more) feed
        ∙ later (sym (at-other line byte tail feed) ∙ none) ended
        ∙ ap (λ xs. with_front xs (divided more)) (append_assoc line (byte ∷ []) tail)

past-text : (text more : List ℕ) → divided text ≡ None → is_ended text ≡ true → divided (text ++ more) ≡ with_front text (divided more)
past-text [] more none ended = sym (front-none (divided more))
past-text (byte ∷ rest) more none ended = past-lines [] byte rest more none ended

at-line : (line rest : List ℕ) → is_separator line ≡ true → divided (line ++ 10 ∷ rest) ≡ Some ([], rest)
at-line line rest sep = go (separator-line line sep)
  where
    go : (line ≡ 45 ∷ 45 ∷ 45 ∷ []) ⊎ (line ≡ longest_separator) → divided (line ++ 10 ∷ rest) ≡ Some ([], rest)
    go (inl short) = ap (λ l. divided (l ++ 10 ∷ rest)) short
    go (inr long) = ap (λ l. divided (l ++ 10 ∷ rest)) long

pub divided-at-first : DividedAtFirst
divided-at-first bytes text rest has = go (divided text) refl
  where
    after : List ℕ
    after = has.line ++ 10 ∷ rest

    whole : bytes ≡ text ++ after
    whole = has.whole ∙ append_assoc text has.line (10 ∷ rest)

    go : (parted : Parted) → divided text ≡ parted → DividesBy bytes text
    go None none = record {
      first = text;
      rest = rest;
      divided_is =
          ap divided whole
          ∙ past-text text after none has.ended
          ∙ ap (with_front text) (at-line has.line rest has.separator)
          ∙ ap (λ xs. Some (xs, rest)) (append-nil text);
      no_later = omega arith;
    }
    go (Some p) is =
        let there = separated-from [] text p.0 p.1 is in
        let count : length text ≡ length (p.0 ++ there.line) + length (10 ∷ p.1) = ap length there.whole ∙ length-append (p.0 ++ there.line) (10 ∷ p.1) in
        record {
          first = p.0;
          rest = p.1 ++ after;
          divided_is = ap divided whole ∙ goes-further [] text after p.0 p.1 is;
          no_later = omega (arith, count, length-append p.0 there.line);
        }

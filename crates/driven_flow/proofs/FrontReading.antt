-- How far the reading of a scenario's text has come, and how it ends.
use Rattle.std.proofs.Common.{◌≡◌, ◌⊎◌, inl, inr, ℕ, ◌+◌, ◌<◌, ◌≤◌, Bool, true, false, Some, None, Result, Err, List, [], ◌++◌, length, take, drop, refl, ap, sym, subst, ◌∙◌, arith, append_assoc, append-nil, length-append, length-drop, take-append-drop}
use Rattle.std.proofs.lemmas.List.{length-take-le}
use Rattle.ccp_base.specs.Outside.{Known, Takes, IsAtEnd, Takes-append}
use Rattle.ccp_base.specs.Limits.{most_frame_bytes, most_input_bytes}
use Rattle.feed_core.specs.FeedEnds.{Stream, stream}
use Rattle.feed_core.proofs.StreamEnds.{rose-late}
use Rattle.driven_flow.specs.declared.front.FrontFault.{FrontFault}
use Rattle.driven_flow.specs.declared.front.FrontFault.TheVariants.{TooLong, NoSeparator, ReadFailed, NoMemory}
use Rattle.driven_flow.specs.Front.{with_front, divided_from, divided, front_in, IsOverlong, IsOpen, IsTooLong, IsFrontFault}
use Rattle.driven_flow.specs.FrontLines.{IsWithinLine, GoesOn, CanEnd, IsUndecided, IsMoved, AddsBytes, IsMore, IsReading, IsTextRead}
use Rattle.driven_flow.proofs.FrontLineLemmas.{Parted, front-twice, longer-text}

-- bytes that belong to the text are moved there
pub reading-moves : (source source' : Known) (text rest text' rest' : List ℕ) (inside inside' : Bool) (count : ℕ)
    (r : IsReading source source' text rest inside) → GoesOn r.line rest count inside' → text' ≡ text ++ take count rest → rest' ≡ drop count rest
    → IsReading source source' text' rest' inside'
reading-moves source source' text rest text' rest' inside inside' count r goes_on grown left = record {
  taken = subst (Takes source source') same r.taken;
  whole = r.whole ++ goes_on.whole;
  line = goes_on.line';
  text_is =
      grown
      ∙ ap (λ xs. xs ++ take count rest) r.text_is
      ∙ append_assoc r.whole r.line (take count rest)
      ∙ ap (λ xs. r.whole ++ xs) goes_on.parts
      ∙ sym (append_assoc r.whole goes_on.whole goes_on.line');
  inside_is = goes_on.inside_is;
  goes = λ more.
      ap (λ xs. divided (xs ++ more)) grown
      ∙ ap divided (append_assoc text (take count rest) more)
      ∙ r.goes (take count rest ++ more)
      ∙ ap (with_front r.whole) (goes_on.goes more)
      ∙ front-twice r.whole goes_on.whole (divided_from goes_on.line' more);
}
  where
    same : text ++ rest ≡ text' ++ rest'
    same =
        ap (λ xs. text ++ xs) (sym (take-append-drop count rest))
        ∙ sym (append_assoc text (take count rest) (drop count rest))
        ∙ ap (λ xs. xs ++ drop count rest) (sym grown)
        ∙ ap (λ xs. text' ++ xs) (sym left)

-- whatever follows, no fewer bytes than the text come before the first line `---`, or without one
front-long : (source source' : Known) (text rest : List ℕ) (inside : Bool) → (r : IsReading source source' text rest inside) → (more : List ℕ)
    → (parted : Parted) → divided_from r.line more ≡ parted → length text ≤ length (front_in (text ++ more) (with_front r.whole parted))
front-long source source' text rest inside r more None is = omega (arith, length-append text more)
front-long source source' text rest inside r more (Some p) is =
    let count : length text ≡ length r.whole + length r.line = ap length r.text_is ∙ length-append r.whole r.line in
    omega (arith, count, begins inside r.inside_is, length-append r.whole p.0)
  where
    begins : (inside : Bool) → IsWithinLine inside r.line → length r.line ≤ length p.0
    begins false none = omega (arith, ap length none)
    begins true other = longer-text r.line more p.0 p.1 other is

-- a text over the limit is too long whatever follows
pub reading-long : (source source' : Known) (before now : ℕ) (text rest : List ℕ) (inside : Bool) → IsReading source source' text rest inside → most_input_bytes < length text
    → length text + length rest ≤ most_input_bytes + most_frame_bytes → IsTooLong (stream source source' before now)
reading-long source source' before now text rest inside r long few = record {
  bytes = text ++ rest;
  taken = r.taken;
  few = omega (arith, few, length-append text rest);
  long = inr (λ more.
      let same : (text ++ rest) ++ more ≡ text ++ (rest ++ more) = append_assoc text rest more in
      let less : length text ≤ length (front_in (text ++ (rest ++ more)) (with_front r.whole (divided_from r.line (rest ++ more)))) = front-long source source' text rest inside r (rest ++ more) (divided_from r.line (rest ++ more)) refl in
      let here : length text ≤ length (front_in (text ++ (rest ++ more)) (divided (text ++ (rest ++ more)))) =
      subst (λ (parted : Parted). length text ≤ length (front_in (text ++ (rest ++ more)) parted)) (sym (r.goes (rest ++ more))) less in
      subst IsOverlong (sym same) (omega (arith, here, long)));
}

-- what was taken is open where the rest is undecided
pub reading-open : (source source' : Known) (text rest : List ℕ) (inside : Bool) (r : IsReading source source' text rest inside) → IsUndecided r.line rest → length text ≤ most_input_bytes → IsOpen (text ++ rest)
reading-open source source' text rest inside r undecided within = go undecided.cause
  where
    none : divided (text ++ rest) ≡ None
    none = r.goes rest ∙ ap (with_front r.whole) undecided.none

    go : (rest ≡ []) ⊎ CanEnd r.line rest → IsOpen (text ++ rest)
    go (inl nothing) =
        let same : (text ++ rest) ++ [] ≡ text ++ rest = append-nil (text ++ rest) in
        let front : front_in ((text ++ rest) ++ []) (divided ((text ++ rest) ++ [])) ≡ text ++ rest = ap (λ xs. front_in xs (divided xs)) same ∙ ap (front_in (text ++ rest)) none in
        record {
          none = none;
          more = [];
          within = omega (arith, ap length front, length-append text rest, ap length nothing, within);
        }
    go (inr can) =
        let all : divided ((text ++ rest) ++ can.more) ≡ Some (r.whole ++ [], []) =
        ap divided (append_assoc text rest can.more) ∙ r.goes (rest ++ can.more) ∙ ap (with_front r.whole) can.ends in
        let front : front_in ((text ++ rest) ++ can.more) (divided ((text ++ rest) ++ can.more)) ≡ r.whole ++ [] = ap (front_in ((text ++ rest) ++ can.more)) all in
        record {
          none = none;
          more = can.more;
          within = omega (arith, ap length front, length-append r.whole [], ap length r.text_is, length-append r.whole r.line, within);
        }

-- a piece comes behind the rest
pub reading-more : (source source' source'' : Known) (text rest rest' : List ℕ) (inside : Bool) → IsReading source source' text rest inside → AddsBytes source' source'' rest rest' → IsReading source source'' text rest' inside
reading-more source source' source'' text rest rest' inside r adds = record {
  taken = subst (Takes source source'')
      (append_assoc text rest adds.piece ∙ ap (λ xs. text ++ xs) (sym adds.added))
      (Takes-append source source' source'' (text ++ rest) adds.piece r.taken adds.taken);
  whole = r.whole;
  line = r.line;
  text_is = r.text_is;
  inside_is = r.inside_is;
  goes = r.goes;
}

-- the end of the source, or a read that failed
pub reading-fails : (source source' source'' : Known) (before middle now : ℕ) (text rest rest' : List ℕ) (inside : Bool) (r : IsReading source source' text rest inside) → IsUndecided r.line rest
    → length text ≤ most_input_bytes → length rest ≤ most_frame_bytes → before ≤ middle → middle ≤ now → (fault : FrontFault) → IsMore middle now source' source'' (length text) rest rest' (Err fault)
    → IsFrontFault (stream source source'' before now) fault
reading-fails source source' source'' before middle now text rest rest' inside r undecided within few less more = fails
  where
    open_there : IsOpen (text ++ rest)
    open_there = reading-open source source' text rest inside r undecided within

    there : source'' ≡ source' → Takes source source'' (text ++ rest)
    there same = subst (λ (s : Known). Takes source s (text ++ rest)) (sym same) r.taken

    fails : (fault : FrontFault) → IsMore middle now source' source'' (length text) rest rest' (Err fault) → IsFrontFault (stream source source'' before now) fault
    fails TooLong (same, at_end, long) =
        let front : front_in (text ++ rest) (divided (text ++ rest)) ≡ text ++ rest = ap (front_in (text ++ rest)) open_there.none in
        record {
          bytes = text ++ rest;
          taken = there same;
          few = omega (arith, within, few, length-append text rest);
          long = inl (subst IsAtEnd (sym same) at_end, omega (arith, long, ap length front, length-append text rest));
        }
    fails NoSeparator (same, at_end, short) = record {
      bytes = text ++ rest;
      taken = there same;
      at_end = subst IsAtEnd (sym same) at_end;
      within = omega (arith, short, length-append text rest);
      none = open_there.none;
    }
    fails ReadFailed (rose, same) = record {
      bytes = text ++ rest;
      taken = there same;
      few = omega (arith, within, few, length-append text rest);
      rose = rose-late before middle now less rose more;
      not_over = open_there;
    }
    fails (NoMemory _) none = absurd none

-- with the next bytes the text is too long, or memory ran out
pub reading-stops : (source source' : Known) (before now : ℕ) (text rest text' rest' : List ℕ) (inside inside' : Bool) (count : ℕ) (r : IsReading source source' text rest inside) → GoesOn r.line rest count inside'
    → count ≤ length rest → length text ≤ most_input_bytes → length rest ≤ most_frame_bytes → (fault : FrontFault) → IsMoved count text rest text' rest' (Err fault) → IsFrontFault (stream source source' before now) fault
reading-stops source source' before now text rest text' rest' inside inside' count r goes_on fits within few = stops
  where
    taken : length (take count rest) ≡ count
    taken = length-take-le count rest fits

    stops : (fault : FrontFault) → IsMoved count text rest text' rest' (Err fault) → IsFrontFault (stream source source' before now) fault
    stops TooLong long =
        let moved = reading-moves source source' text rest (text ++ take count rest) (drop count rest) inside inside' count r goes_on refl refl in
        reading-long source source' before now (text ++ take count rest) (drop count rest) inside' moved
        (omega (arith, long, taken, length-append text (take count rest)))
        (omega (arith, taken, within, few, fits, length-append text (take count rest), length-drop count rest))
    stops NoSeparator none = absurd none
    stops ReadFailed none = absurd none
    stops (NoMemory _) done = record {
      front = text;
      rest = rest;
      taken = r.taken;
      few = omega (arith, within, few, length-append text rest);
      none = ap divided (sym (append-nil text)) ∙ r.goes [];
      kept = few;
    }

-- a fault that the loop returns
pub text-fails : (source : Stream) (text rest : List ℕ) (result : Result ℕ FrontFault) (returned fault : FrontFault) → result ≡ Err returned → returned ≡ fault → IsFrontFault source fault → IsTextRead source text rest result
text-fails source text rest result returned fault is same fails = subst (IsTextRead source text rest) (sym (is ∙ ap Err same)) fails

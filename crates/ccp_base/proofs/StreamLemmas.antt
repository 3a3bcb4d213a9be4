-- What the system answers to a call of a stream, whose values all know their bytes or none does, says of the bytes.
use Rattle.std.proofs.Common.{◌≡◌, ◌∙◌, ap, refl, subst, append-nil, ℕ, Bool, true, false, Some, None, is_some, Result, Ok, Err, List, [], take}
use Rattle.std.proofs.lemmas.Bool.{eqb-true}
use Rattle.std.specs.Prelude.{IfOk, OnErr, if◌then◌else◌, ◌==◌, ◌&&◌, not}
use Rattle.std.specs.Io.KnownBytes.{Keeps, Consumes, ReadConsumes, WriteAppends}
use Rattle.std.specs.Io.KnownBytes.{Appends as GrowsBy}
use Rattle.ccp_base.specs.declared.outside.Failed.{Failed}
use Rattle.ccp_base.specs.Outside.{Known, Takes, Appends}
use Rattle.ccp_base.specs.SystemAnswers.{read_answer, write_answer}

pub kept_known : (old new : Known) → is_some old ≡ is_some new → Keeps old new → new ≡ old
kept_known None None alike keeps = refl
kept_known None (Some left) alike keeps = cc
kept_known (Some left) None alike keeps = absurd keeps
kept_known (Some left) (Some after) alike keeps = ap Some keeps

taken_known : (old new : Known) (taken : List ℕ) → is_some old ≡ is_some new → Consumes old new taken → Takes old new taken
taken_known None None taken alike takes = refl
taken_known None (Some left) taken alike takes = cc
taken_known (Some left) None taken alike takes = absurd takes
taken_known (Some left) (Some after) taken alike takes = ap Some takes

appended_known : (old new : Known) (bytes : List ℕ) → is_some old ≡ is_some new → GrowsBy old new bytes → Appends old new bytes
appended_known None None bytes alike grows = refl
appended_known None (Some written) bytes alike grows = cc
appended_known (Some written) None bytes alike grows = absurd grows
appended_known (Some written) (Some after) bytes alike grows = ap Some grows

module _ {E : Type 0} (old new : Known) (alike : is_some old ≡ is_some new) (buffer : List ℕ) where
  pub read_keeps : (answer : Result ℕ E) → ReadConsumes old new answer buffer → OnErr (read_answer answer) (new ≡ old)
  read_keeps (Ok count) known = record {}
  read_keeps (Err error) known = kept_known old new alike known

  pub read_takes : (answer : Result ℕ E) → ReadConsumes old new answer buffer → IfOk (read_answer answer) (λ n. Takes old new (take n buffer))
  read_takes (Ok count) known = taken_known old new (take count buffer) alike known.0
  read_takes (Err error) known = record {}

-- a write that took this number of bytes, which is a failure or not
abbrev taken_or : Bool → ℕ → Result ℕ Failed
taken_or failed count = if failed then Err (record {}) else Ok count

appended_or : (old new : Known) (bytes : List ℕ) (count : ℕ) → Appends old new (take count bytes) → (failed : Bool)
    → IfOk (taken_or failed count) (λ n. Appends old new (take n bytes))
appended_or old new bytes count appends true = record {}
appended_or old new bytes count appends false = appends

nothing_more : (old new : Known) → Appends old new [] → new ≡ old
nothing_more None new appends = appends
nothing_more (Some written) new appends = appends ∙ ap Some (append-nil written)

-- only a write that took nothing is a failure
kept_or : (old new : Known) (bytes : List ℕ) (count : ℕ) → Appends old new (take count bytes) → (none small : Bool) → (count == 0) ≡ none
    → OnErr (taken_or (none && small) count) (new ≡ old)
kept_or old new bytes count appends false small e = record {}
kept_or old new bytes count appends true false e = record {}
kept_or old new bytes count appends true true e =
    nothing_more old new (subst (λ (n : ℕ). Appends old new (take n bytes)) (eqb-true count 0 e) appends)

module _ {E : Type 0} (old new : Known) (alike : is_some old ≡ is_some new) (size : ℕ) (bytes : List ℕ) where
  pub write_keeps : (answer : Result ℕ E) → WriteAppends old new answer bytes → OnErr (write_answer size answer) (new ≡ old)
  write_keeps (Ok count) known =
      kept_or old new bytes count (appended_known old new (take count bytes) alike known) (count == 0) (not (size == 0)) refl
  write_keeps (Err error) known = kept_known old new alike known

  pub write_appends : (answer : Result ℕ E) → WriteAppends old new answer bytes → IfOk (write_answer size answer) (λ n. Appends old new (take n bytes))
  write_appends (Ok count) known =
      appended_or old new bytes count (appended_known old new (take count bytes) alike known) (count == 0 && not (size == 0))
  write_appends (Err error) known = record {}

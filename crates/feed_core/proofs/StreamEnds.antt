-- What was taken and written in turn.
use Rattle.std.proofs.Common.{rules, ◌≡◌, ℕ, ◌+◌, ◌≤◌, Some, None, List, [], ◌++◌, length, take, ap, sym, refl, subst, ◌∙◌, arith, length-append, append-nil}
use Rattle.std.proofs.Math.Seq.{take-append-add}
use Rattle.std.proofs.lemmas.List.{take_all, take-append-le}
use Rattle.ccp_base.specs.Outside.{Known, Rose, Takes, Appends, AppendsPrefix, Appends-append}

pub takes-nothing : (known : Known) → Takes known known []
takes-nothing None = refl
takes-nothing (Some bytes) = refl

pub appends-nothing : (known : Known) → Appends known known []
appends-nothing None = refl
appends-nothing (Some bytes) = ap Some (sym (append-nil bytes))

pub appends-all : (old new : Known) (bytes : List ℕ) → Appends old new bytes → AppendsPrefix old new bytes
appends-all old new bytes all = record {
  count = length bytes;
  within = omega arith;
  appends = subst (Appends old new) (sym (take_all (length bytes) bytes (omega arith))) all;
}

-- what is written before, and then a front of the next, is a front of all
pub appends-front : (old middle new : Known) (first next later : List ℕ) → Appends old middle first → AppendsPrefix middle new next → AppendsPrefix old new (first ++ (next ++ later))
appends-front old middle new first next later before front =
    let short : take (front.count) (next ++ later) ≡ take front.count next = take-append-le front.count next later front.within in
    let whole : take (length first + front.count) (first ++ (next ++ later)) ≡ first ++ take front.count next =
    take-append-add first (next ++ later) front.count ∙ ap (λ xs. first ++ xs) short in
    let within : front.count ≤ length next = front.within in
    record {
      count = length first + front.count;
      within = omega (arith, within, length-append first (next ++ later), length-append next later);
      appends = subst (Appends old new) (sym whole) (Appends-append old middle new first (take front.count next) before front.appends);
    }

pub rose-late : (before middle now : ℕ) → before ≤ middle → Rose middle now → middle ≤ now → Rose before now
rose-late before middle now first rose grown = search rules

use Rattle.std.proofs.Common.{rules, ◌≡◌, ℕ, ◌+◌, ◌-◌, List, ◌++◌, length, take, drop, arith, ap, sym, subst, ◌∙◌, length-drop}
use Rattle.std.proofs.Math.Seq.{take-add}
use Rattle.std.proofs.lemmas.List.{take_rest}
use Rattle.ccp_base.specs.Outside.{Known, Appends, Appends-append}
use Rattle.feed_core.proofs.duplex.hand_over.Goals as goal

-- a piece of the rest goes behind the front that was written
Appends-piece : (old middle new : Known) (bytes : List ℕ) (done more : ℕ) → Appends old middle (take done bytes) → Appends middle new (take more (take (length bytes - done) (drop done bytes))) → Appends old new (take (done + more) bytes)
Appends-piece old middle new bytes done more before after =
    let rest = take (length bytes - done) (drop done bytes) in
    let whole : take done bytes ++ take more rest ≡ take (done + more) bytes =
    ap (λ xs. take done bytes ++ take more xs) (take_rest bytes done) ∙ sym (take-add done more bytes) in
    subst (λ (xs : List ℕ). Appends old new xs) whole
    (Appends-append old middle new (take done bytes) (take more rest) before after)

pub loop-done-init : goal.loop-done-init
loop-done-init g c = record {
  follows = g.met.D.Duplex.follows_itself c.args.duplex.now;
  within = search rules;
  counted = search rules;
  remaining = search rules;
  read_faults = search rules;
  appends = search rules;
}

pub loop-done-preserved : goal.loop-done-preserved
loop-done-preserved g c = record {
  follows = g.met.D.Duplex.follows_on c.args.duplex.now c.loop-done.duplex c.write.new.self c.loop-done.invariant.follows c.in_ok-done.ensures.follows;
  within = omega (arith, c.in_ok-done.ensures.within, length-drop c.loop-done.done c.args.bytes.now);
  counted = c.in_ok-done.ensures.quiet ∙ c.loop-done.invariant.counted;
  remaining = c.in_ok-done.ensures.remaining ∙ c.loop-done.invariant.remaining;
  read_faults = c.in_ok-done.ensures.read_faults ∙ c.loop-done.invariant.read_faults;
  appends = Appends-piece _ _ _ c.args.bytes.now c.loop-done.done c.in_ok-done.field-0 c.loop-done.invariant.appends c.in_ok-done.ensures.appends;
}

use Rattle.std.proofs.Common.{◌≡◌, ℕ, ◌+◌, ◌≤◌, List, ◌++◌, length, take, arith, length-append, ◌∙◌, ap}
use Rattle.std.proofs.lemmas.List.{length-take, length-take-le}
use Rattle.ccp_base.specs.Outside.{Takes-append}
use Rattle.ccp_base.proofs.source.read_all.Goals as goal

-- a list with a piece more is as much longer as the piece is long
length-with_piece : (bytes piece : List ℕ) (count : ℕ) → count ≤ length piece → length (bytes ++ take count piece) ≡ length bytes + count
length-with_piece bytes piece count fits = length-append bytes (take count piece) ∙ ap (λ n. length bytes + n) (length-take-le count piece fits)

pub returns-then-count-room-clause-too_long : goal.returns-then-count-room-clause-too_long
returns-then-count-room-clause-too_long g c = λ too_long.
    let bytes = c.loop-count.bytes in
    let piece = c.read.new.out in
    let count = c.in-Ok.count in
    let fits : count ≤ length piece = omega (arith, c.in-Ok.ensures.within) in
    record {
      taken = bytes ++ take count piece;
      takes = Takes-append _ _ _ bytes (take count piece) c.loop-count.invariant.takes c.in-Ok.ensures.taken;
      over = omega (arith, length-with_piece bytes piece count fits);
    }

pub returns-in_err-extend-clause-within : goal.returns-in_err-extend-clause-within
returns-in_err-extend-clause-within g c = λ other.
    let bytes = c.loop-count.bytes in
    let piece = c.read.new.out in
    let count = c.in-Ok.count in
    let fits : count ≤ length piece = omega (arith, c.in-Ok.ensures.within) in
    record {
      taken = bytes ++ take count piece;
      takes = Takes-append _ _ _ bytes (take count piece) c.loop-count.invariant.takes c.in-Ok.ensures.taken;
      within = omega (arith, length-with_piece bytes piece count fits);
    }

pub returns-then-count-room-clause-most : goal.returns-then-count-room-clause-most
returns-then-count-room-clause-most g c =
    let bytes = c.loop-count.bytes in
    let piece = c.read.new.out in
    let count = c.in-Ok.count in
    let fits : count ≤ length piece = omega (arith, c.in-Ok.ensures.within) in
    record {
      taken = bytes ++ take count piece;
      takes = Takes-append _ _ _ bytes (take count piece) c.loop-count.invariant.takes c.in-Ok.ensures.taken;
      within = omega (arith, length-with_piece bytes piece count fits, length-take c.min-asked.result c.loop-count.buffer);
    }

pub returns-in_err-extend-clause-most : goal.returns-in_err-extend-clause-most
returns-in_err-extend-clause-most g c =
    let bytes = c.loop-count.bytes in
    let piece = c.read.new.out in
    let count = c.in-Ok.count in
    let fits : count ≤ length piece = omega (arith, c.in-Ok.ensures.within) in
    record {
      taken = bytes ++ take count piece;
      takes = Takes-append _ _ _ bytes (take count piece) c.loop-count.invariant.takes c.in-Ok.ensures.taken;
      within = omega (arith, length-with_piece bytes piece count fits);
    }

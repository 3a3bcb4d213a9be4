use Rattle.std.proofs.Common.{◌≡◌, ℕ, ◌+◌, ◌≤◌, Err, List, ◌++◌, length, take, ap, subst, ◌∙◌, arith, length-append}
use Rattle.std.proofs.lemmas.List.{length-take-le}
use Rattle.std.proofs.lemmas.Result.{err_from_is_err_and}
use Rattle.driven_flow.specs.FrontLines.{IsUndecided, GoesOn, IsMore}
use Rattle.driven_flow.proofs.FrontReading.{reading-moves, reading-stops, reading-open, reading-more, reading-fails, text-fails}
use Rattle.driven_flow.proofs.front.read_text.Goals as goal

pub returns-in_err-move_front-in-Text-clause-read : goal.returns-in_err-move_front-in-Text-clause-read
returns-in_err-move_front-in-Text-clause-read g c =
    let so_far = c.loop-count.invariant in
    let rest : List ℕ = c.loop-count.rest in
    let returned = err_from_is_err_and c.from_residual.result c.from_residual.ensures.1 in
    let goes : GoesOn so_far.reading.line rest c.in-Text.count c.in-Text.unended = subst (λ (bytes : List ℕ). GoesOn so_far.reading.line bytes c.in-Text.count c.in-Text.unended) c.as_slice.ensures.bytes (c.in-Text.ensures.next so_far.reading.line so_far.reading.inside_is) in
    let fits : c.in-Text.count ≤ length rest = subst (λ (bytes : List ℕ). c.in-Text.count ≤ length bytes) c.as_slice.ensures.bytes c.in-Text.ensures.counted.1 in
    let fails = reading-stops (g.D.Duplex.remaining c.args.duplex.now) (g.D.Duplex.remaining c.loop-count.duplex) (g.D.Duplex.read_faults c.args.duplex.now) (g.D.Duplex.read_faults c.loop-count.duplex)
    c.loop-count.text rest c.move_front.new.text c.move_front.new.rest c.loop-count.inside c.in-Text.unended c.in-Text.count so_far.reading goes fits so_far.within
    c.as_slice.ensures.few
    c.in_err-move_front-in-Text.field-0.0 c.in_err-move_front-in-Text.ensures.moved in
    text-fails _ c.move_front.new.text c.move_front.new.rest c.from_residual.result returned.0 c.in_err-move_front-in-Text.field-0.0 returned.1 returned.2 fails

pub loop-count-preserved-in-Text : goal.loop-count-preserved-in-Text
loop-count-preserved-in-Text g c =
    let so_far = c.loop-count.invariant in
    let rest : List ℕ = c.loop-count.rest in
    let goes : GoesOn so_far.reading.line rest c.in-Text.count c.in-Text.unended = subst (λ (bytes : List ℕ). GoesOn so_far.reading.line bytes c.in-Text.count c.in-Text.unended) c.as_slice.ensures.bytes (c.in-Text.ensures.next so_far.reading.line so_far.reading.inside_is) in
    let fits : c.in-Text.count ≤ length rest = subst (λ (bytes : List ℕ). c.in-Text.count ≤ length bytes) c.as_slice.ensures.bytes c.in-Text.ensures.counted.1 in
    let moved = c.in_ok-move_front-in-Text.ensures.moved in
    let count : length c.move_front.new.text ≡ length c.loop-count.text + c.in-Text.count = omega (arith, ap length moved.0, length-append c.loop-count.text (take c.in-Text.count rest), length-take-le c.in-Text.count rest fits) in
    record {
      follows = so_far.follows;
      written = so_far.written;
      write_faults = so_far.write_faults;
      finished = so_far.finished;
      reads = so_far.reads;
      reading = reading-moves (g.D.Duplex.remaining c.args.duplex.now) (g.D.Duplex.remaining c.loop-count.duplex) c.loop-count.text rest c.move_front.new.text c.move_front.new.rest
          c.loop-count.inside c.in-Text.unended c.in-Text.count so_far.reading goes moved.0 moved.1;
      within = omega (arith, count, moved.2);
    }

pub read_more-requires-clause-few : goal.read_more-requires-clause-few
read_more-requires-clause-few g c = omega (arith, c.in-Open.ensures.counted, ap length c.as_slice.ensures.bytes)

pub read_more-requires-clause-allowed : goal.read_more-requires-clause-allowed
read_more-requires-clause-allowed g c =
    let so_far = c.loop-count.invariant in
    let rest : List ℕ = c.loop-count.rest in
    let undecided : IsUndecided so_far.reading.line rest = subst (IsUndecided so_far.reading.line) c.as_slice.ensures.bytes (c.in-Open.ensures.next so_far.reading.line so_far.reading.inside_is) in
    c.requires.allowed c.loop-count.duplex (c.loop-count.text ++ rest) so_far.follows so_far.reading.taken so_far.written so_far.finished
    (reading-open (g.D.Duplex.remaining c.args.duplex.now) (g.D.Duplex.remaining c.loop-count.duplex) c.loop-count.text rest c.loop-count.inside so_far.reading undecided so_far.within)

pub loop-count-preserved : goal.loop-count-preserved
loop-count-preserved g c =
    let so_far = c.loop-count.invariant in
    let read = c.read_more.ensures in
    record {
      follows = g.met.D.Duplex.follows_on c.args.duplex.now c.loop-count.duplex c.read_more.new.duplex so_far.follows read.follows;
      written = read.written ∙ so_far.written;
      write_faults = read.write_faults ∙ so_far.write_faults;
      finished = λ before. read.finished (so_far.finished before);
      reads = omega (arith, so_far.reads, read.counted);
      reading = reading-more (g.D.Duplex.remaining c.args.duplex.now) (g.D.Duplex.remaining c.loop-count.duplex) (g.D.Duplex.remaining c.read_more.new.duplex) c.loop-count.text
          c.loop-count.rest c.read_more.new.rest c.loop-count.inside so_far.reading c.in_ok-read_more-in-Open.ensures.came;
      within = so_far.within;
    }

pub returns-in_err-read_more-in-Open-clause-read : goal.returns-in_err-read_more-in-Open-clause-read
returns-in_err-read_more-in-Open-clause-read g c =
    let so_far = c.loop-count.invariant in
    let read = c.read_more.ensures in
    let rest : List ℕ = c.loop-count.rest in
    let undecided : IsUndecided so_far.reading.line rest = subst (IsUndecided so_far.reading.line) c.as_slice.ensures.bytes (c.in-Open.ensures.next so_far.reading.line so_far.reading.inside_is) in
    let returned = err_from_is_err_and c.from_residual-in_err-read_more-in-Open.result c.from_residual-in_err-read_more-in-Open.ensures.1 in
    let fails = reading-fails (g.D.Duplex.remaining c.args.duplex.now) (g.D.Duplex.remaining c.loop-count.duplex) (g.D.Duplex.remaining c.read_more.new.duplex)
    (g.D.Duplex.read_faults c.args.duplex.now) (g.D.Duplex.read_faults c.loop-count.duplex) (g.D.Duplex.read_faults c.read_more.new.duplex)
    c.loop-count.text rest c.read_more.new.rest c.loop-count.inside so_far.reading undecided so_far.within
    c.as_slice.ensures.few so_far.reads read.counted
    c.in_err-read_more-in-Open.field-0.0 (subst (λ (n : ℕ). IsMore (g.D.Duplex.read_faults c.loop-count.duplex) (g.D.Duplex.read_faults c.read_more.new.duplex) (g.D.Duplex.remaining c.loop-count.duplex) (g.D.Duplex.remaining c.read_more.new.duplex) n rest c.read_more.new.rest (Err c.in_err-read_more-in-Open.field-0.0)) c.len-in-Open.ensures c.in_err-read_more-in-Open.ensures.came) in
    text-fails _ c.loop-count.text c.read_more.new.rest c.from_residual-in_err-read_more-in-Open.result returned.0 c.in_err-read_more-in-Open.field-0.0 returned.1 returned.2 fails

use Rattle.std.proofs.Common.{◌≡◌, ℕ, List, take, unwrap_or, [], Option, sym, ap, subst}
use Rattle.slot_pool.specs.Pool.{with_run, front_at}
use Rattle.slot_pool.specs.Region.{words_of, ChangesWords}
use Rattle.slot_pool.proofs.PoolLemmas.{WritesSlot, write_step, out_below, out_has_words}
use Rattle.slot_pool.proofs.pool.Pool.copy_run.Goals as goal

-- the list of free slots stays
step : (c : goal.After-copy_run) → WritesSlot c.copy_run.new.self c.self.inside.first_free c.self.inside.free c.args.self.now c.args.slot.now (λ words. with_run words c.args.at (front_at c.args.self.now c.args.from.now c.args.count))
step c =
    let region = c.self.inside.region in
    let number = c.number-number.result in
    let front : take c.args.count (words_of region c.number-source.result) ≡ front_at c.args.self.now c.args.from.now c.args.count =
    ap (λ (o : Option (List ℕ)). take c.args.count (unwrap_or o []))
    (sym (out_has_words region c.self.inside.first_free c.self.inside.free c.number-source.result c.args.from.now c.args.self.now c.self.view_is c.requires.from_out c.number-source.ensures)) in
    write_step region c.copy_run.new.self c.self.inside.first_free c.self.inside.free number c.args.slot.now (λ words. with_run words c.args.at (front_at c.args.self.now c.args.from.now c.args.count)) c.args.self.now
    c.self.invariant c.self.view_is c.requires.out c.number-number.ensures
    (subst (λ (run : List ℕ). ChangesWords region c.copy_run.new.self number (with_run (words_of region number) c.args.at run)) front c.copy_run.ensures)

pub copy_run-requires-clause-from_in : goal.copy_run-requires-clause-from_in
copy_run-requires-clause-from_in c =
    out_below c.self.inside.region c.self.inside.first_free c.self.inside.free c.number-source.result c.args.from.now c.args.self.now c.self.view_is c.requires.from_out c.number-source.ensures

pub copy_run-requires-clause-slot_in : goal.copy_run-requires-clause-slot_in
copy_run-requires-clause-slot_in c =
    out_below c.self.inside.region c.self.inside.first_free c.self.inside.free c.number-number.result c.args.slot.now c.args.self.now c.self.view_is c.requires.out c.number-number.ensures

pub invariant_of-self : goal.invariant_of-self
invariant_of-self c = (step c).linked

pub returns-clause-written : goal.returns-clause-written
returns-clause-written c = (step c).changes

pub returns-clause-out : goal.returns-clause-out
returns-clause-out c = (step c).out

pub returns-clause-counted : goal.returns-clause-counted
returns-clause-counted c = (step c).counted

use Rattle.std.proofs.Common.{slice_index_or}
use Rattle.fold_run.proofs.ItemLemmas.{gives-named}
use Rattle.fold_run.proofs.names.Followers.item.Goals as goal

pub returns-in-Some-clause-gives : goal.returns-in-Some-clause-gives
returns-in-Some-clause-gives c =
    gives-named c.args.text.now (slice_index_or c.args.self.now.numbers c.args.before 0) c.in-Some.rest.now c.in-Some.ensures.below c.in-Some.ensures.after

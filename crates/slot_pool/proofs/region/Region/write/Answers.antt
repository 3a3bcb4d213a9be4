use Rattle.std.proofs.Common.{refl}
use Rattle.slot_pool.proofs.RegionLemmas.{words_in-set, words_in-set_other}
use Rattle.slot_pool.proofs.region.Region.write.Goals as goal

-- a write changes the words of its slot alone
pub returns : goal.returns
returns c =
    let region = c.args.self.now.items.items in
    let words = c.args.self.now.words in
    record {
      changed = words_in-set region words c.args.slot c.args.at c.args.word c.requires.at_in;
      others = λ other apart. words_in-set_other region words c.args.slot c.args.at c.args.word other c.requires.at_in apart;
      slots = refl;
      words = refl;
    }

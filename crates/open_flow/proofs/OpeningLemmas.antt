-- What is kept before the first letter is what the flow before its first letter has.
use Rattle.std.specs.Prelude.{None, Ok, length, map, refl}
use Rattle.std.proofs.Common.{ap, sym, subst, arith}
use Rattle.std.proofs.lemmas.Option.{none-some}
use Rattle.flow_core.specs.Readings.{env_of}
use Rattle.scene_members.specs.declared.open_case.OpenCase.{OpenCase}
use Rattle.open_flow.specs.declared.opening.Opening.{Opening}
use Rattle.open_flow.specs.declared.state.State.{State}
use Rattle.open_flow.specs.OpenWorld.{opening}
use Rattle.open_flow.specs.OpenWords.{install_world, legal}
use Rattle.open_flow.specs.Entries.{installed_of, AreStepsFrom}
use Rattle.open_flow.specs.OpenBooks.{seen_of}
use Rattle.open_flow.specs.Openings.{IsOpening}
use Rattle.open_flow.specs.States.{Keeps, IsOpen}

module _ (case : OpenCase) (made : Opening) (is : IsOpening case made) where
  -- the state of the case and its opening
  abbrev pub opened : State
  opened = record {
    case = case;
    link = made.link;
    machine = made.machine;
    running = None;
    acks = 0;
    time = 0;
    account = made.account;
    entries = made.entries;
    installed = made.installed;
    epochs = made.epochs;
    word = made.word;
  }

  keeps-opened : Keeps opened opening
  keeps-opened = record {
    entries = ap (map installed_of) is.entries;
    installed = is.installed;
    epochs = is.epochs;
    reports = is.reports;
    faults = (λ i. map (seen_of made.entries.items) (is.faults i));
    acks = refl;
    time = refl;
    track = (λ i. record { env = env_of (is.machine i).kept; is_stopped = (is.machine i).is_stopped; first = 0; count = 0 });
    runs = tt;
    passed = record { before = λ i form below ok. absurd (none-some (Ok form) ok); after = λ i past. refl };
    stands = is.stands;
  }

  pub open-opened : IsOpen opened
  open-opened =
      let entries_long = ap length is.entries in
      let installed_long = ap length is.installed in
      let epochs_long = ap length is.epochs in
      let reports_long = ap length is.reports in
      let faults_long = ap length is.faults in
      let word_long = ap length is.word in
      record {
        fit = record {
          link = is.link;
          calls = is.calls;
          fits = tt;
          steps = subst (AreStepsFrom 0) (sym is.entries) tt;
          acks_most = omega arith;
          entries_most = omega (arith, entries_long);
          installed_count = omega (arith, installed_long, entries_long);
          running_most = omega arith;
          epochs_most = omega (arith, epochs_long);
          epochs_count = epochs_long;
          faults_most = omega (arith, faults_long);
          reports_most = omega (arith, reports_long);
          letters = omega (arith, word_long, entries_long, epochs_long);
          entries_room = is.entries_room;
          installed_room = is.installed_room;
          epochs_room = is.epochs_room;
          faults_room = is.faults_room;
          reports_room = is.reports_room;
          word_room = is.word_room;
        };
        keeps = subst (Keeps opened) (sym (ap (install_world case) is.word)) keeps-opened;
        legal = ap (legal case) is.word;
      }

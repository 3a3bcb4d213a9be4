-- What a parse of the tool's command line says of the words.
use Rattle.std.proofs.Common.{ℕ, ◌≤◌, ◌<◌, ◌^◌, IfSome, ◌≡◌, ◌∙◌, Bool, true, false, List, [], ◌∷◌, Option, Some, None, map, option_and_then, option_map, find, codes, bytes_eq, ap, sym, refl, arith, ne_eqb, subst}
use Rattle.std.specs.List.{list_any}
use Rattle.std.proofs.lemmas.Slice.Eq.{bytes_eq-Decides}
use Rattle.clap.specs.Built.{IsParsedFrom}
use Rattle.clap.specs.Faults.{fault_of, is_simple_and_free}
use Rattle.clap.specs.Kinds.{Kinds, IsAmong}
use Rattle.clap.specs.Matches.{found_of, one_text}
use Rattle.clap.specs.Simple.{HasMatchesOf, app_of, is_simple, matches_of}
use Rattle.clap.specs.Values.{same_text}
use Rattle.clap.specs.Walk.{Text, is_empty, one_of}
use Rattle.clap.specs.declared.builder.command.Command.{Command}
use Rattle.clap.specs.declared.error.kind.ErrorKind.{ErrorKind}
use Rattle.clap.specs.declared.parser.matches.ArgMatches.{ArgMatches}
use Rattle.clap.proofs.WalkLemmas.{one_text-rows}
use Rattle.ccp_words.specs.Modes.{modes, mode_named, mode_names}
use Rattle.ccp_words.specs.Words.{HasWorkers, IsCommandLine, are_accepted, asked_in, ccp, unplaced, said}
use Rattle.ccp_words.specs.Matches.{HasOptions, ReadsNumber, is_flag_text, written_number}
use Rattle.ccp_words.specs.declared.words.Asked.{Asked}
use Rattle.ccp_words.proofs.OptionsGiven.{datapaths_given, agents_given, workers_given, number_given}
use Rattle.clap.specs.Values.{IsUnsignedIn}
use Rattle.ccp_words.specs.declared.mode.ToolMode.{ToolMode}
use Rattle.ccp_words.proofs.CommandLine.{any_text, same_faults, same_matches}
use Rattle.ccp_words.proofs.ModeGiven.{mode_given}

-- a name among those of a table is found in it
found_in : (rows : List (Text × ToolMode)) (text : Text) → list_any (λ name. bytes_eq name text) (map (λ row. row.0) rows) ≡ true
    → (mode : ToolMode) × (option_map (λ row. row.1) (find (λ row. bytes_eq text row.0) rows) ≡ Some mode)
found_in [] text none = cc
found_in (row ∷ rows) text any = at (bytes_eq text row.0) refl (bytes_eq row.0 text) refl (found_in rows text)
  where
    at : (same : Bool) → bytes_eq text row.0 ≡ same → (back : Bool) → bytes_eq row.0 text ≡ back
        → (list_any (λ name. bytes_eq name text) (map (λ row. row.0) rows) ≡ true → (mode : ToolMode) × (option_map (λ row. row.1) (find (λ row. bytes_eq text row.0) rows) ≡ Some mode))
        → (mode : ToolMode) × (option_map (λ row. row.1) (find (λ row. bytes_eq text row.0) (row ∷ rows)) ≡ Some mode)
    at true e back b rest = (row.1, rw e refl)
    at false e false b rest =
        let later = rest (rw b at any) in
        (later.0, rw e later.1)
    at false e true b rest =
        let equal : row.0 ≡ text = (bytes_eq-Decides row.0 text).0 b in
        let same : bytes_eq text row.0 ≡ true = subst (λ name. bytes_eq text name ≡ true) (sym equal) (subst (λ name. bytes_eq name text ≡ true) equal b) in
        cc

-- a name among those of the modes is that of a mode
named : (text : Text) → list_any (λ name. same_text false name text) mode_names ≡ true → (mode : ToolMode) × (mode_named text ≡ Some mode)
named text any = found_in modes text any

module _ (command : Command) (line : IsCommandLine command) (words : List Text) where
  faults : fault_of (app_of command) words ≡ fault_of ccp words
  faults = ap (λ a. fault_of a words) line.app ∙ same_faults (unplaced (map unplaced mode_names)) line.names line.modes words

  pub is_free : is_simple_and_free (app_of command) ≡ true
  is_free = ap is_simple_and_free line.app

  pub accepted : fault_of (app_of command) words ≡ [] → are_accepted words ≡ true
  unfolding are_accepted
  accepted e = ap is_empty (sym faults ∙ e)

  pub refused : (kind : ErrorKind) → IsAmong kind (fault_of (app_of command) words) → are_accepted words ≡ false
  unfolding are_accepted
  refused kind among = ap is_empty (sym faults) ∙ go (fault_of (app_of command) words) among
    where
      go : (kinds : Kinds) → IsAmong kind kinds → is_empty kinds ≡ false
      go [] e = absurd e
      go (x ∷ xs) e = ne_eqb _ _ (λ same. omega arith)

  -- what is read of the matches under a name is what the words say
  said_is : (m : ArgMatches) → HasMatchesOf (app_of command) words m → (name : Text) → one_text (found_of m) name ≡ said name words
  said_is m has name =
      one_text-rows (found_of m) name
      ∙ ap (one_of name) ((has (ap is_simple line.app)).0 ∙ ap (λ a. matches_of a words) line.app ∙ same_matches (unplaced (map unplaced mode_names)) line.names line.modes words)

  -- a number that is read of the matches is the one that the words say, and in its range
  number_is : (m : ArgMatches) → HasMatchesOf (app_of command) words m → (name : Text) (least most : ℕ) → most < 2 ^ 32
      → (text : Text) × (one_text (found_of m) name ≡ Some text) × IsUnsignedIn least most text
      → (number : ℕ) → ReadsNumber (one_text (found_of m) name) number
      → (number ≡ written_number (said name words)) × (least ≤ number) × (number ≤ most)
  number_is m has name least most fits given number read =
      let value = subst (λ o. ReadsNumber o number) given.1 read given.2.0 (omega arith) in
      let said_so : said name words ≡ Some given.0 = sym (said_is m has name) ∙ given.1 in
      (value ∙ sym (ap written_number said_so), omega (arith, value, given.2.2), omega (arith, value, given.2.3))

  -- options that are read of the matches, beside the mode that the words say, are what the words ask for
  all_asked : (asked : Asked) (text : Text) → said (codes "mode") words ≡ Some text → mode_named text ≡ Some asked.mode
      → asked.datapaths ≡ written_number (said (codes "datapaths") words) → asked.agents ≡ written_number (said (codes "agents") words)
      → asked.workers ≡ written_number (said (codes "workers") words) → asked.number ≡ written_number (said (codes "number") words)
      → asked.wire ≡ is_flag_text (said (codes "wire") words)
      → asked_in words ≡ Some asked
  unfolding asked_in
  all_asked asked text mode_said mode datapaths agents workers number wire =
      ap (λ (o : Option Text). option_map (λ mode. record {
        mode = mode;
        datapaths = written_number (said (codes "datapaths") words);
        agents = written_number (said (codes "agents") words);
        workers = written_number (said (codes "workers") words);
        number = written_number (said (codes "number") words);
        wire = is_flag_text (said (codes "wire") words);
      }) (option_and_then mode_named o)) mode_said
      ∙ (ap (option_map (λ (mode : ToolMode). record {
        mode = mode;
        datapaths = written_number (said (codes "datapaths") words);
        agents = written_number (said (codes "agents") words);
        workers = written_number (said (codes "workers") words);
        number = written_number (said (codes "number") words);
        wire = is_flag_text (said (codes "wire") words);
      })) mode
      ∙ (λ i. Some (record { mode = asked.mode; datapaths = sym datapaths i; agents = sym agents i; workers = sym workers i; number = sym number i; wire = sym wire i })))

  -- what is read of the matches is what the words ask for
  pub asks : (m : ArgMatches) → IsParsedFrom command m → HasMatchesOf (app_of command) words m
      → (r : Option Asked) → ((text : Text) → one_text (found_of m) (codes "mode") ≡ Some text → option_map (λ (asked : Asked). asked.mode) r ≡ mode_named text)
      → IfSome r (HasOptions (found_of m))
      → (asked : Asked) × (r ≡ Some asked) × (asked_in words ≡ Some asked) × HasWorkers asked
  asks m parsed has r mode options = go r mode options
    where
      given : (text : Text) × (one_text (found_of m) (codes "mode") ≡ Some text) × (list_any (λ name. same_text false name.now text) line.names.now ≡ true)
      given = mode_given command line.names line.app m parsed

      found : (mode : ToolMode) × (mode_named given.0 ≡ Some mode)
      found = named given.0 (ap (list_any (λ name. same_text false name given.0)) (sym line.modes) ∙ sym (any_text given.0 line.names.now) ∙ given.2)

      go : (r : Option Asked) → ((text : Text) → one_text (found_of m) (codes "mode") ≡ Some text → option_map (λ (asked : Asked). asked.mode) r ≡ mode_named text)
          → IfSome r (HasOptions (found_of m))
          → (asked : Asked) × (r ≡ Some asked) × (asked_in words ≡ Some asked) × HasWorkers asked
      go None mode options = let bad : None ≡ Some found.0 = mode given.0 given.1 ∙ found.1 in cc
      go (Some asked) mode options =
          let datapaths = number_is m has (codes "datapaths") 1 32 (omega arith) (datapaths_given command line.names line.app m parsed) asked.datapaths options.datapaths in
          let agents = number_is m has (codes "agents") 1 32 (omega arith) (agents_given command line.names line.app m parsed) asked.agents options.agents in
          let workers = number_is m has (codes "workers") 1 32 (omega arith) (workers_given command line.names line.app m parsed) asked.workers options.workers in
          let number = number_is m has (codes "number") 0 4294967295 (omega arith) (number_given command line.names line.app m parsed) asked.number options.number in (
            asked,
            refl,
            all_asked asked given.0 (sym (said_is m has (codes "mode")) ∙ given.1) (sym (mode given.0 given.1))
                datapaths.0 agents.0 workers.0 number.0 (options.wire ∙ ap is_flag_text (said_is m has (codes "wire"))),
            record { datapaths = (datapaths.1, datapaths.2); agents = (agents.1, agents.2); workers = (workers.1, workers.2) },
          )

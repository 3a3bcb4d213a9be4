-- After a parse of the tool's command line each numbered option has a value in its range.
use Rattle.std.proofs.Common.{◌≡◌, ◌∙◌, ◌<◌, ℕ, zero, suc, true, false, List, [], ◌∷◌, Some, length, map, codes, bytes_eq, ap, sym, refl, subst, arith, inl, inr}
use Rattle.std.specs.List.{slice_index_or}
use Rattle.std.proofs.lemmas.Slice.Eq.{bytes_eq-Decides}
use Rattle.clap.specs.Built.{IsParsedFrom}
use Rattle.clap.specs.Facts.{args_of, least_values, unwrap_or_range}
use Rattle.clap.specs.Texts.{items_of}
use Rattle.clap.specs.Matches.{found_of, one_text}
use Rattle.clap.specs.Simple.{app_of}
use Rattle.clap.specs.Values.{Accepts, IsUnsignedIn}
use Rattle.clap.specs.Walk.{Rule, Text, rule_of, texts}
use Rattle.clap.specs.declared.builder.arg.Arg.{Arg}
use Rattle.clap.specs.declared.builder.command.Command.{Command}
use Rattle.clap.specs.declared.builder.value_parser.ValueParser.TheVariants.{Unsigned}
use Rattle.clap.specs.declared.parser.matches.ArgMatches.{ArgMatches}
use Rattle.ccp_words.specs.Words.{HeldNames, command_line, mode_argument, number_option}
use Rattle.ccp_words.proofs.DefaultReads.{default_reads}
use Rattle.ccp_words.proofs.ModeGiven.{head, plain, rules_are, simple}

-- the rule of an argument at a place
rule_at : (xs : List Arg) (k : ℕ) (d : Arg) → k < length xs → rule_of (slice_index_or xs k d) ≡ slice_index_or (map rule_of xs) k (rule_of d)
rule_at [] k d lt = absurd (omega arith)
rule_at (x ∷ xs) zero d lt = refl
rule_at (x ∷ xs) (suc k) d lt = rule_at xs k d (omega arith)

as_many : {X Y : Type 0} (f : X → Y) (xs : List X) → length (map f xs) ≡ length xs
as_many f [] = refl
as_many f (x ∷ xs) = ap suc (as_many f xs)

module _ (command : Command) (names : HeldNames) (app : app_of command ≡ command_line names) (m : ArgMatches) (parsed : IsParsedFrom command m) where
  some : Arg
  some = head (args_of command) (mode_argument names) _ (rules_are command names app)

  six : length (args_of command) ≡ 6
  six = sym (as_many rule_of (args_of command)) ∙ ap length (rules_are command names app)

  rule_is : (k : ℕ) (d : Arg) → k < 6 → rule_of (slice_index_or (args_of command) k d) ≡ slice_index_or (command_line names).top.rules k (rule_of d)
  rule_is k d lt =
      let within : k < length (args_of command) = omega (arith, six) in
      rule_at (args_of command) k d within ∙ ap (λ rules. slice_index_or rules k (rule_of d)) (rules_are command names app)

  id_of : (j : ℕ) (d : Arg) → j < 6 → (slice_index_or (args_of command) j d).id.now ≡ (slice_index_or (command_line names).top.rules j (rule_of d)).id
  id_of j d lt = ap (λ (r : Rule). r.id) (rule_is j d lt)

  -- the option at a place with this name and range has a value in the range, if no other argument has its name
  number_at : (k : ℕ) (name : Text) (least most : ℕ) → k < 6
      → slice_index_or (command_line names).top.rules k (rule_of some) ≡ number_option name least most
      → ((j : ℕ) (d : Rule) → j < 6 → bytes_eq (slice_index_or (command_line names).top.rules j d).id name ≡ true → j ≡ k)
      → bytes_eq name [] ≡ false → bytes_eq name (codes "help") ≡ false → bytes_eq name (codes "version") ≡ false
      → (text : Text) × (one_text (found_of m) name ≡ Some text) × IsUnsignedIn least most text
  number_at k name least most lt is only not_empty not_help not_version =
      let rule : rule_of (slice_index_or (args_of command) k some) ≡ number_option name least most = rule_is k some lt ∙ is in
      let within : k < length (args_of command) = omega (arith, six) in
      let id_is : (slice_index_or (args_of command) k some).id.now ≡ name = ap (λ (r : Rule). r.id) rule in
      let own : bytes_eq name name ≡ true = (bytes_eq-Decides name name).1 refl in
      let given : texts (items_of (slice_index_or (args_of command) k some).default_vals) ≡ codes "1" ∷ [] = ap (λ (r : Rule). r.defaults) rule in
      let one : length (items_of (slice_index_or (args_of command) k some).default_vals) ≡ 1 = sym (as_many _ _) ∙ ap length given in
      let read = default_reads command m parsed (plain command names app) (simple command names app).globals
      k some within ((((simple command names app).args k some within).default_ifs), omega (arith, one))
      (ap (λ (r : Rule). r.action) rule) ((simple command names app).args k some within).delimiter
      (let least_is : least_values (slice_index_or (args_of command) k some) ≡ 1 = ap (λ (r : Rule). (unwrap_or_range r.range).start_inclusive) rule in omega (arith, least_is))
      (λ j e under same.
      let less : j < 6 = omega (arith, six) in
      only j (rule_of e) less (ap (λ id. bytes_eq id name) (sym (id_of j e less)) ∙ (ap (bytes_eq (slice_index_or (args_of command) j e).id.now) (sym id_is) ∙ same)))
      (λ empty. let bad : true ≡ false = sym own ∙ (ap (bytes_eq name) (sym id_is ∙ empty) ∙ not_empty) in cc)
      (λ auto. elim auto [
        | inl help ↦ let bad : true ≡ false = sym own ∙ (ap (bytes_eq name) (sym id_is ∙ help) ∙ not_help) in cc
        | inr version ↦ let bad : true ≡ false = sym own ∙ (ap (bytes_eq name) (sym id_is ∙ version) ∙ not_version) in cc
      ])
      (Unsigned least most) (ap (λ (r : Rule). r.parser) rule) in
      (read.0, ap (one_text (found_of m)) (sym id_is) ∙ read.1, subst (λ b. Accepts b (Unsigned least most) read.0) (ap (λ (r : Rule). r.ignore_case) rule) read.2)

  at_datapaths : (j : ℕ) (d : Rule) → j < 6 → bytes_eq (slice_index_or (command_line names).top.rules j d).id (codes "datapaths") ≡ true → j ≡ 1
  at_datapaths zero d lt is = cc
  at_datapaths (suc zero) d lt is = refl
  at_datapaths (suc (suc zero)) d lt is = cc
  at_datapaths (suc (suc (suc zero))) d lt is = cc
  at_datapaths (suc (suc (suc (suc zero)))) d lt is = cc
  at_datapaths (suc (suc (suc (suc (suc zero))))) d lt is = cc
  at_datapaths (suc (suc (suc (suc (suc (suc j)))))) d lt is = absurd (omega arith)

  at_agents : (j : ℕ) (d : Rule) → j < 6 → bytes_eq (slice_index_or (command_line names).top.rules j d).id (codes "agents") ≡ true → j ≡ 2
  at_agents zero d lt is = cc
  at_agents (suc zero) d lt is = cc
  at_agents (suc (suc zero)) d lt is = refl
  at_agents (suc (suc (suc zero))) d lt is = cc
  at_agents (suc (suc (suc (suc zero)))) d lt is = cc
  at_agents (suc (suc (suc (suc (suc zero))))) d lt is = cc
  at_agents (suc (suc (suc (suc (suc (suc j)))))) d lt is = absurd (omega arith)

  at_workers : (j : ℕ) (d : Rule) → j < 6 → bytes_eq (slice_index_or (command_line names).top.rules j d).id (codes "workers") ≡ true → j ≡ 3
  at_workers zero d lt is = cc
  at_workers (suc zero) d lt is = cc
  at_workers (suc (suc zero)) d lt is = cc
  at_workers (suc (suc (suc zero))) d lt is = refl
  at_workers (suc (suc (suc (suc zero)))) d lt is = cc
  at_workers (suc (suc (suc (suc (suc zero))))) d lt is = cc
  at_workers (suc (suc (suc (suc (suc (suc j)))))) d lt is = absurd (omega arith)

  at_number : (j : ℕ) (d : Rule) → j < 6 → bytes_eq (slice_index_or (command_line names).top.rules j d).id (codes "number") ≡ true → j ≡ 4
  at_number zero d lt is = cc
  at_number (suc zero) d lt is = cc
  at_number (suc (suc zero)) d lt is = cc
  at_number (suc (suc (suc zero))) d lt is = cc
  at_number (suc (suc (suc (suc zero)))) d lt is = refl
  at_number (suc (suc (suc (suc (suc zero))))) d lt is = cc
  at_number (suc (suc (suc (suc (suc (suc j)))))) d lt is = absurd (omega arith)

  pub datapaths_given : (text : Text) × (one_text (found_of m) (codes "datapaths") ≡ Some text) × IsUnsignedIn 1 32 text
  datapaths_given = number_at 1 (codes "datapaths") 1 32 (omega arith) refl at_datapaths refl refl refl

  pub agents_given : (text : Text) × (one_text (found_of m) (codes "agents") ≡ Some text) × IsUnsignedIn 1 32 text
  agents_given = number_at 2 (codes "agents") 1 32 (omega arith) refl at_agents refl refl refl

  pub workers_given : (text : Text) × (one_text (found_of m) (codes "workers") ≡ Some text) × IsUnsignedIn 1 32 text
  workers_given = number_at 3 (codes "workers") 1 32 (omega arith) refl at_workers refl refl refl

  pub number_given : (text : Text) × (one_text (found_of m) (codes "number") ≡ Some text) × IsUnsignedIn 0 4294967295 text
  number_given = number_at 4 (codes "number") 0 4294967295 (omega arith) refl at_number refl refl refl

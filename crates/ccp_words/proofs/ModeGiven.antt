-- After a parse of the tool's command line the mode has a value, which is one of the names.
use Rattle.std.proofs.Common.{◌≡◌, ◌∙◌, ◌<◌, ◌||◌, ℕ, zero, suc, Bool, true, false, List, [], ◌∷◌, Some, length, map, codes, bytes_eq, slice_index_or, ap, sym, refl, subst, arith, inl, inr}
use Rattle.std.proofs.lemmas.Bool.{or_parts}
use Rattle.std.specs.List.{list_all, list_any}
use Rattle.clap.specs.Built.{IsParsedFrom, IsPlain}
use Rattle.clap.specs.Facts.{args_of, least_values, unwrap_or_range}
use Rattle.clap.specs.Matches.{found_of, one_text}
use Rattle.clap.specs.Simple.{IsSimple, app_of, is_ready, is_ready_leaf, shape_of}
use Rattle.clap.specs.Values.{Accepts, same_text}
use Rattle.clap.specs.Walk.{Rule, Text, rule_of}
use Rattle.clap.specs.declared.builder.arg.Arg.{Arg}
use Rattle.clap.specs.declared.builder.command.Command.{Command}
use Rattle.clap.specs.declared.builder.value_parser.ValueParser.TheVariants.{Names}
use Rattle.clap.specs.declared.parser.matches.ArgMatches.{ArgMatches}
use Rattle.clap.proofs.CallerReads.{required_reads}
use Rattle.clap.proofs.FaultLemmas.{free_args}
use Rattle.clap.proofs.SimpleLemmas.{ready_simple, simple_groups}
use Rattle.ccp_words.specs.Words.{HeldNames, command_line, mode_argument}

-- the first of some arguments
pub head : (xs : List Arg) (r : Rule) (rs : List Rule) → map rule_of xs ≡ r ∷ rs → Arg
head [] r rs e = let bad : ⊥ = cc in absurd bad
head (x ∷ xs) r rs e = x

-- the first of the arguments with these rules
first : (xs : List Arg) (r : Rule) (rs : List Rule) (d : Arg) → map rule_of xs ≡ r ∷ rs → (0 < length xs) × (rule_of (slice_index_or xs 0 d) ≡ r)
first [] r rs d e = cc
first (x ∷ xs) r rs d e = (omega arith, cc)

unnamed : (xs : List Arg) (id : Text) → list_any (λ (s : Rule). bytes_eq s.id id) (map rule_of xs) ≡ false
    → (j : ℕ) (d : Arg) → j < length xs → bytes_eq (slice_index_or xs j d).id.now id ≡ true → ⊥
unnamed [] id none j d lt is = absurd (omega arith)
unnamed (x ∷ xs) id none zero d lt is = let e = (or_parts (bytes_eq x.id.now id) _ none).0 in cc
unnamed (x ∷ xs) id none (suc j) d lt is = unnamed xs id (or_parts (bytes_eq x.id.now id) _ none).1 j d (omega arith) is

-- an argument after the first has another id
alone : (xs : List Arg) (r : Rule) (rs : List Rule) (id : Text) → map rule_of xs ≡ r ∷ rs → list_any (λ (s : Rule). bytes_eq s.id id) rs ≡ false
    → (j : ℕ) (d : Arg) → j < length xs → bytes_eq (slice_index_or xs j d).id.now id ≡ true → j ≡ 0
alone [] r rs id e none j d lt is = absurd (omega arith)
alone (x ∷ xs) r rs id e none zero d lt is = refl
alone (x ∷ xs) r rs id e none (suc j) d lt is =
    let rest : map rule_of xs ≡ rs = cc in
    absurd (unnamed xs id (ap (list_any (λ (s : Rule). bytes_eq s.id id)) rest ∙ none) j d (omega arith) is)

module _ (command : Command) (names : HeldNames) (app : app_of command ≡ command_line names) where
  pub shape : shape_of command ≡ (command_line names).top
  shape = ap (λ a. a.top) app

  pub simple : IsSimple command
  simple = ready_simple command (ap is_ready shape) (ap (λ a. list_all is_ready_leaf a.subs) app)

  pub plain : IsPlain command
  plain =
      let free = free_args command simple (ap (λ s. list_all (λ (a : Rule). a.is_free) s.rules) shape) in
      let groups = simple_groups command (ap (λ s. list_all (λ (a : Rule). a.is_simple) s.rules) shape) in
      ((λ k d lt. let f = free k d lt in (f.exclusive, f.conflicts, f.overrides, groups k d lt)), simple.groups)

  pub rules_are : map rule_of (args_of command) ≡ (command_line names).top.rules
  rules_are = ap (λ s. s.rules) shape

  pub mode_given : (m : ArgMatches) → IsParsedFrom command m
      → (text : Text) × (one_text (found_of m) (codes "mode") ≡ Some text) × (list_any (λ name. same_text false name.now text) names.now ≡ true)
  mode_given m parsed =
      let d = head (args_of command) (mode_argument names) _ rules_are in
      let f = first (args_of command) (mode_argument names) _ d rules_are in
      let id_is : (slice_index_or (args_of command) 0 d).id.now ≡ codes "mode" = ap (λ (r : Rule). r.id) f.1 in
      let least : least_values (slice_index_or (args_of command) 0 d) ≡ 1 = ap (λ (r : Rule). (unwrap_or_range r.range).start_inclusive) f.1 in
      let read = required_reads command m parsed plain simple.globals (ap (λ s. s.subcommand_negates_reqs) shape)
      0 d f.0 (ap (λ (r : Rule). r.required) f.1) (ap (λ (r : Rule). r.action) f.1) (simple.args 0 d f.0).delimiter (omega arith)
      (λ j e lt is. alone (args_of command) (mode_argument names) _ (codes "mode") rules_are refl j e lt (subst (λ id. bytes_eq (slice_index_or (args_of command) j e).id.now id ≡ true) id_is is))
      (λ empty. let bad : true ≡ false = ap (bytes_eq (codes "mode")) (sym id_is ∙ empty) in cc)
      (λ auto. elim auto [
        | inl help ↦ let bad : true ≡ false = ap (bytes_eq (codes "mode")) (sym id_is ∙ help) in cc
        | inr version ↦ let bad : true ≡ false = ap (bytes_eq (codes "mode")) (sym id_is ∙ version) in cc
      ])
      (Names names) (ap (λ (r : Rule). r.parser) f.1) in
      (read.0, ap (one_text (found_of m)) (sym id_is) ∙ read.1, subst (λ b. Accepts b (Names names) read.0) (ap (λ (r : Rule). r.ignore_case) f.1) read.2)

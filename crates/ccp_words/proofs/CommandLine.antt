-- The tool's command line, whose names of modes may be held at any place.
use Rattle.std.proofs.Common.{◌≡◌, false, if◌then◌else◌, List, [], ◌∷◌, map, drop, is_some, Bor, ap, sym, refl, ◌∙◌, ◌||◌}
use Rattle.std.specs.List.{list_any}
use Rattle.clap.specs.Kinds.{value_kinds}
use Rattle.clap.specs.Values.{same_text}
use Rattle.clap.specs.Faults.{entered_fault, fault_of, level_fault}
use Rattle.clap.specs.Simple.{built, entered, matches_of}
use Rattle.clap.specs.Walk.{Rule, Text, Walk, finished, nothing_held, walk}
use Rattle.clap.specs.declared.builder.value_parser.ValueParser.TheVariants.{Names}
use Rattle.clap.specs.declared.error.kind.ErrorKind.TheVariants.{InvalidValue}
use Rattle.ccp_words.specs.Words.{HeldNames, command_line}
use Rattle.ccp_words.proofs.AlikeWalks.{Alike, AllAlike, finishes, walks}
use Rattle.ccp_words.proofs.AlikeFaults.{level_same}

abbrev texts : HeldNames → List Text
texts names = map (λ name. name.now) names.now

pub any_text : (text : Text) (names : List (Bor Text)) → list_any (λ name. same_text false name.now text) names ≡ list_any (λ name. same_text false name text) (map (λ name. name.now) names)
any_text text [] = refl
any_text text (name ∷ rest) = ap (λ x. same_text false name.now text || x) (any_text text rest)

same_names : (m n : HeldNames) → texts n ≡ texts m → (text : Text) → value_kinds false (Names n) text ≡ value_kinds false (Names m) text
same_names m n e text =
    ap (λ x. if x then [] else InvalidValue ∷ [])
    (any_text text n.now ∙ ap (list_any (λ name. same_text false name text)) e ∙ sym (any_text text m.now))

module _ (m n : HeldNames) (e : texts n ≡ texts m) where
  abbrev rules : HeldNames → List Rule
  rules names = (built (command_line names)).top.rules

  same_rule : (r : Rule) → Alike r r
  same_rule r = record { rest = refl; kinds = λ text. refl; reading = refl }

  alike : AllAlike (rules m) (rules n)
  alike = (record { rest = refl; kinds = same_names m n e; reading = refl }, (same_rule _, (same_rule _, (same_rule _, (same_rule _, (same_rule _, tt))))))

  pub same_faults : (words : List Text) → fault_of (command_line n) words ≡ fault_of (command_line m) words
  same_faults words =
      ap (λ (w : Walk). level_fault (built (command_line n)).top [] nothing_held (drop 1 words) (is_some (entered (built (command_line n)) w.stopped)) (entered_fault (built (command_line n)) w.stopped))
      (walks (rules m) (rules n) alike [] nothing_held (drop 1 words))
      ∙ (let stopped = (walk (rules m) [] nothing_held (drop 1 words)).stopped in
      level_same (built (command_line m)).top (rules n) alike [] nothing_held (drop 1 words) (is_some (entered (built (command_line m)) stopped)) (entered_fault (built (command_line m)) stopped))

  pub same_matches : (words : List Text) → matches_of (command_line n) words ≡ matches_of (command_line m) words
  same_matches words =
      ap (λ (w : Walk). finished (rules n) w.held) (walks (rules m) (rules n) alike [] nothing_held (drop 1 words))
      ∙ finishes (rules m) (rules n) alike (walk (rules m) [] nothing_held (drop 1 words)).held

-- Commands whose arguments differ only in parsers that take the same values name the same faults in words.
use Rattle.std.proofs.Common.{◌≡◌, ℕ, ◌+◌, zero, suc, Bool, not, ◌&&◌, ◌||◌, if◌then◌else◌, Option, Some, None, List, [], ◌∷◌, length, min, drop, is_some, slice_get, encode_utf8, bytes_eq, ap, ap₂, refl, ◌∙◌}
use Rattle.std.specs.List.{list_any}
use Rattle.std.specs.Str.{chars}
use Rattle.std.specs.Option.{option_map_or}
use Rattle.clap.specs.Lexer.{long_of, short_of}
use Rattle.clap.specs.Facts.{explicit_source, parser_of_value, unwrap_or_range}
use Rattle.clap.specs.Matches.{count_text}
use Rattle.clap.specs.Kinds.{Kinds, check_kinds, or_else, range_kinds, request_kinds, value_kinds}
use Rattle.clap.specs.Simple.{Shape}
use Rattle.clap.specs.Takes.{is_given}
use Rattle.clap.specs.Walk.{Held, Names, Row, Rule, Step, Text, Waiting, Walk, action_of, arg_by_id, arg_by_index, arg_by_long, arg_by_short, attached_value, count_of, finished, has_row, is_empty, is_pending, most_values, next, trailing, subcommand, value, reacted, settled, subcommand_met, takes_several, takes_values, values_or_missing, walk, walk_from, walked, with_default, word_met}
use Rattle.clap.specs.Faults.{action_fault, bundle_fault, bundle_step_fault, check_fault, count_fault, default_fault, defaults_fault, flag_word_fault, flags_fault, level_fault, long_fault, option_fault, other_fault, positional_fault, react_fault, repeat_fault, set_fault, settle_fault, short_fault, step_fault, stray_fault, turn_fault, use_fault, values_fault, walk_fault, word_fault}
use Rattle.clap.specs.declared.builder.action.ArgAction.{ArgAction}
use Rattle.clap.specs.declared.builder.action.ArgAction.TheVariants.{Set, Append, SetTrue, SetFalse, Count, Help, HelpShort, HelpLong, Version}
use Rattle.clap.specs.declared.error.kind.ErrorKind.TheVariants as kind
use Rattle.ccp_words.proofs.AlikeWalks.{Alike, AllAlike, BothAlike, Ignores, same_test, missing, by_id, by_index, by_long, by_short, settles, reacts, meets_word, walks_on, walks, takes_default, finishes}

-- ---- one use of an argument

values_of : (a b : Rule) → Alike a b → (values : List Text) → values_fault b values ≡ values_fault a values
values_of a b s [] = refl
values_of a b s (v ∷ vs) = ap₂ or_else (s.kinds v) (values_of a b s vs)

count_of_uses : (a b : Rule) → Alike a b → (values : List Text) (rows : List Row) → count_fault b values rows ≡ count_fault a values rows
count_of_uses a b s [] rows =
    ap (λ (r : Rule). value_kinds b.ignore_case (parser_of_value b.parser) (count_text (min (count_of r.id rows + 1) 255))) s.rest
    ∙ s.kinds (count_text (min (count_of a.id rows + 1) 255))
count_of_uses a b s (v ∷ vs) rows = values_of a b s (v ∷ vs)

set_use : (again : Bool) (a b : Rule) → Alike a b → (values : List Text) (rows : List Row) → set_fault again b values rows ≡ set_fault again a values rows
set_use again a b s values rows = ap₂ or_else (ap (λ (r : Rule). repeat_fault again r.id rows) s.rest) (values_of a b s values)

acts : (x : ArgAction) (again : Bool) (a b : Rule) → Alike a b → (values : List Text) (rows : List Row)
    → action_fault x again b values rows ≡ action_fault x again a values rows
acts Set again a b s values rows = set_use again a b s values rows
acts SetTrue again a b s values rows = set_use again a b s values rows
acts SetFalse again a b s values rows = set_use again a b s values rows
acts Append again a b s values rows = values_of a b s values
acts Count again a b s values rows = count_of_uses a b s values rows
acts Help again a b s values rows = refl
acts HelpShort again a b s values rows = refl
acts HelpLong again a b s values rows = refl
acts Version again a b s values rows = refl

uses : (again : Bool) (a b : Rule) → Alike a b → (values : List Text) (rows : List Row) → use_fault again b values rows ≡ use_fault again a values rows
uses again a b s values rows = ap₂ or_else
    (ap (λ (r : Rule). range_kinds (unwrap_or_range r.range).start_inclusive (most_values r) (length values)) s.rest)
    (ap₂ (λ (r : Rule) vs. action_fault (action_of r) again b vs rows) s.rest (missing a b s values)
    ∙ acts (action_of a) again a b s (values_or_missing a values) rows)

module _ (c d : List Rule) (s : AllAlike c d) (again : Bool) where
  -- ---- flags and options

  uses_found : (o q : Option Rule) → BothAlike o q → (values : List Text) (rows : List Row)
      → option_map_or (λ a. use_fault again a values rows) q [] ≡ option_map_or (λ a. use_fault again a values rows) o []
  uses_found None None e values rows = refl
  uses_found None (Some b) e values rows = absurd e
  uses_found (Some a) None e values rows = absurd e
  uses_found (Some a) (Some b) e values rows = uses again a b e values rows

  settle_pending : (p : Option (Text × List Text)) (rows : List Row)
      → option_map_or (λ p. option_map_or (λ a. use_fault again a p.1 rows) (arg_by_id d p.0) []) p []
      ≡ option_map_or (λ p. option_map_or (λ a. use_fault again a p.1 rows) (arg_by_id c p.0) []) p []
  settle_pending None rows = refl
  settle_pending (Some p) rows = uses_found (arg_by_id c p.0) (arg_by_id d p.0) (by_id c d s p.0) p.1 rows

  pub settle_same : (h : Held) → settle_fault d again h ≡ settle_fault c again h
  settle_same h = settle_pending h.pending h.rows

  react_same : (a b : Rule) → Alike a b → (values : List Text) (h : Held) → react_fault d again b values h ≡ react_fault c again a values h
  react_same a b e values h = ap₂ or_else (settle_same h)
      (uses again a b e values (settled d h).rows ∙ ap (λ (k : Held). use_fault again a values k.rows) (settles c d s h))

  option_same : (a b : Rule) → Alike a b → (v : Option Text) (h : Held) → option_fault d again b v h ≡ option_fault c again a v h
  option_same a b e None h = settle_same h
  option_same a b e (Some v) h = react_same a b e (v ∷ []) h

  long_same : (o q : Option Rule) → BothAlike o q → (v : Option Text) (h : Held) → long_fault d again q v h ≡ long_fault c again o v h
  long_same None None e v h = refl
  long_same None (Some b) e v h = absurd e
  long_same (Some a) None e v h = absurd e
  long_same (Some a) (Some b) e v h =
      ap (λ (r : Rule). if takes_values r then option_fault d again b v h
      else (if is_some v then kind.TooManyValues ∷ [] else react_fault d again b [] h)) e.rest
      ∙ ap₂ (λ x y. if takes_values a then x else (if is_some v then kind.TooManyValues ∷ [] else y)) (option_same a b e v h) (react_same a b e [] h)

  short_same : (o q : Option Rule) → BothAlike o q → (rest : Text) (h : Held) (f g : Held → Kinds) → ((k : Held) → g k ≡ f k)
      → short_fault d again q rest h g ≡ short_fault c again o rest h f
  short_same None None e rest h f g same = refl
  short_same None (Some b) e rest h f g same = absurd e
  short_same (Some a) None e rest h f g same = absurd e
  short_same (Some a) (Some b) e rest h f g same =
      ap (λ (r : Rule). if takes_values r then option_fault d again b (attached_value rest) h
      else or_else (react_fault d again b [] h) (g (reacted d b [] h))) e.rest
      ∙ ap₂ (λ x y. if takes_values a then x else y) (option_same a b e (attached_value rest) h)
      (ap₂ or_else (react_same a b e [] h) (same (reacted d b [] h) ∙ ap f (reacts c d s a b e [] h)))

  character_same : (x : Option ℕ) (flags : Text) (skip : ℕ) (h : Held) (f g : Text → ℕ → Held → Kinds)
      → ((t : Text) (n : ℕ) (k : Held) → g t n k ≡ f t n k)
      → bundle_step_fault d again x flags skip h g ≡ bundle_step_fault c again x flags skip h f
  character_same None flags skip h f g same = refl
  character_same (Some x) flags zero h f g same =
      short_same (arg_by_short c x) (arg_by_short d x) (by_short c d s x) (drop (length (encode_utf8 x)) flags) h
      (f (drop (length (encode_utf8 x)) flags) 0) (g (drop (length (encode_utf8 x)) flags) 0)
      (same (drop (length (encode_utf8 x)) flags) 0)
  character_same (Some x) flags (suc skip) h f g same = same (drop (length (encode_utf8 x)) flags) skip h

  characters_same : (n : ℕ) (flags : Text) (skip : ℕ) (h : Held) → flags_fault d again n flags skip h ≡ flags_fault c again n flags skip h
  unfolding flags_fault
  characters_same zero flags skip h = refl
  characters_same (suc n) flags skip h =
      character_same (slice_get (chars flags) 0) flags skip h (flags_fault c again n) (flags_fault d again n) (characters_same n)

  bundle_same : (flags : Option Text) (h : Held)
      → option_map_or (λ flags. bundle_fault d again flags h) flags [] ≡ option_map_or (λ flags. bundle_fault c again flags h) flags []
  bundle_same None h = refl
  bundle_same (Some flags) h = characters_same (length flags) flags h.skip (record h { skip = 0 })

  pub flag_same : (name : Option (Text × Option Text)) (word : Text) (h : Held) → flag_word_fault d again name word h ≡ flag_word_fault c again name word h
  flag_same None word h = bundle_same (short_of word) h
  flag_same (Some p) word h = long_same (arg_by_long c p.0) (arg_by_long d p.0) (by_long c d s p.0) p.1 h

  positional_same : (a b : Rule) → Alike a b → (h : Held) → positional_fault d again b h ≡ positional_fault c again a h
  positional_same a b e h =
      ap (λ (r : Rule). if is_pending r h.pending && takes_several r then [] else settle_fault d again h) e.rest
      ∙ ap (λ x. if is_pending a h.pending && takes_several a then [] else x) (settle_same h)

  pub place_same : (o q : Option Rule) → BothAlike o q → (h : Held) (stray : Kinds)
      → option_map_or (λ a. positional_fault d again a h) q stray ≡ option_map_or (λ a. positional_fault c again a h) o stray
  place_same None None e h stray = refl
  place_same None (Some b) e h stray = absurd e
  place_same (Some a) None e h stray = absurd e
  place_same (Some a) (Some b) e h stray = positional_same a b e h

-- ---- after the walk

default_same : (a b : Rule) → Alike a b → (rows : List Row) → default_fault rows b ≡ default_fault rows a
default_same a b s rows =
    ap (λ (r : Rule). if has_row r.id rows || is_empty r.defaults then [] else or_else (request_kinds (action_of r)) (values_fault b r.defaults)) s.rest
    ∙ ap (λ x. if has_row a.id rows || is_empty a.defaults then [] else or_else (request_kinds (action_of a)) x) (values_of a b s a.defaults)

pub defaults_same : (c d : List Rule) → AllAlike c d → (rows : List Row) → defaults_fault rows d ≡ defaults_fault rows c
unfolding defaults_fault
defaults_same [] [] s rows = refl
defaults_same [] (b ∷ d) s rows = absurd s
defaults_same (a ∷ c) [] s rows = absurd s
defaults_same (a ∷ c) (b ∷ d) s rows = ap₂ or_else (default_same a b s.0 rows)
    (ap (λ k. defaults_fault k d) (takes_default a b s.0 rows) ∙ defaults_same c d s.1 (with_default rows a))

any_same : (test : Rule → Bool) → Ignores test → (c d : List Rule) → AllAlike c d → list_any test d ≡ list_any test c
any_same test ignores [] [] s = refl
any_same test ignores [] (b ∷ d) s = absurd s
any_same test ignores (a ∷ c) [] s = absurd s
any_same test ignores (a ∷ c) (b ∷ d) s = ap₂ (λ x y. x || y) (same_test test ignores a b s.0) (any_same test ignores c d s.1)

-- ---- a command, and the same with other arguments

module _ (sh : Shape) (d : List Rule) (s : AllAlike sh.rules d) (names : Names) where
  abbrev other : Shape
  other = record sh { rules = d }

  other_same : (name : Option Text) (word : Text) (h : Held) → other_fault other name word h ≡ other_fault sh name word h
  other_same (Some name) word h = refl
  other_same None word h = ap (λ x. if bytes_eq word (45 ∷ 45 ∷ []) then [] else x) (flag_same sh.rules d s sh.args_override_self (long_of word) word h)

  word_same : (is_trailing : Bool) (waiting : Waiting) (word : Text) (h : Held)
      → word_fault other names is_trailing waiting word h ≡ word_fault sh names is_trailing waiting word h
  word_same is_trailing waiting word h = ap (λ x. if is_trailing then [] else x) (other_same (subcommand_met names waiting word) word h)

  step_same : (n : ℕ) (h : Held) (step : Step) → step_fault other n h step ≡ step_fault sh n h step
  step_same n h (next waiting) = refl
  step_same n h (trailing k) = refl
  step_same n h (subcommand name) = refl
  step_same n h value = place_same sh.rules d s sh.args_override_self (arg_by_index sh.rules n) (arg_by_index d n) (by_index sh.rules d s n) h (stray_fault sh)

  turn_same : (w : Walk) (word : Text) → turn_fault other names w word ≡ turn_fault sh names w word
  turn_same w word = ap (λ x. if is_some w.stopped then [] else x) (ap₂ or_else (word_same w.is_trailing w.waiting word w.held)
      (ap (λ (m : Held × Step). step_fault other w.position m.0 m.1) (meets_word sh.rules d s names w.is_trailing w.waiting w.position word w.held)
      ∙ step_same w.position (word_met sh.rules names w.is_trailing w.waiting w.position word w.held).0 (word_met sh.rules names w.is_trailing w.waiting w.position word w.held).1))

  walk_same : (words : List Text) (w : Walk) → walk_fault other names w words ≡ walk_fault sh names w words
  unfolding walk_fault
  walk_same [] w = refl
  walk_same (word ∷ rest) w = ap₂ or_else (turn_same w word)
      (ap (λ (k : Walk). walk_fault other names k rest) (walks_on sh.rules d s names w word) ∙ walk_same rest (walked sh.rules names w word))

  check_same : (rows : List Row) (has_subcommand : Bool) → check_fault other rows has_subcommand ≡ check_fault sh rows has_subcommand
  check_same rows has_subcommand = ap (λ wants. check_kinds
      (not has_subcommand && (sh.arg_required_else_help && not (list_any (λ r. explicit_source r.source) rows)))
      (not has_subcommand && sh.subcommand_required)
      (not (sh.subcommand_negates_reqs && has_subcommand) && wants))
      (any_same (λ a. a.required && not (is_given a.id rows)) (λ a parser. refl) sh.rules d s)

  -- what the walk leaves is settled, and gets its defaults
  end_same : (end : Held) (has_subcommand : Bool)
      → or_else (settle_fault d sh.args_override_self end) (or_else (defaults_fault (settled d end).rows d) (check_fault other (finished d end) has_subcommand))
      ≡ or_else (settle_fault sh.rules sh.args_override_self end) (or_else (defaults_fault (settled sh.rules end).rows sh.rules) (check_fault sh (finished sh.rules end) has_subcommand))
  end_same end has_subcommand = ap₂ or_else (settle_same sh.rules d s sh.args_override_self end) (ap₂ or_else
      (ap (λ (k : Held). defaults_fault k.rows d) (settles sh.rules d s end) ∙ defaults_same sh.rules d s (settled sh.rules end).rows)
      (ap (λ rows. check_fault other rows has_subcommand) (finishes sh.rules d s end) ∙ check_same (finished sh.rules end) has_subcommand))

  pub level_same : (h : Held) (words : List Text) (has_subcommand : Bool) (below : Kinds)
      → level_fault other names h words has_subcommand below ≡ level_fault sh names h words has_subcommand below
  level_same h words has_subcommand below = ap₂ or_else (walk_same words (walk_from h)) (ap (or_else below)
      (ap (λ (w : Walk). or_else (settle_fault d sh.args_override_self w.held) (or_else (defaults_fault (settled d w.held).rows d) (check_fault other (finished d w.held) has_subcommand)))
      (walks sh.rules d s names h words)
      ∙ end_same (walk sh.rules names h words).held has_subcommand))

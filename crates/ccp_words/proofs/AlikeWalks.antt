-- Commands whose arguments differ only in parsers that take the same values walk over words in the same way.
use Rattle.std.proofs.Common.{◌≡◌, ℕ, zero, suc, Bool, true, false, cond, ◌&&◌, ◌||◌, if◌then◌else◌, Option, Some, None, List, [], ◌∷◌, length, drop, find, fold, nat_lt, slice_get, encode_utf8, bytes_eq, ap, ap₂, refl, ◌∙◌}
use Rattle.std.specs.Str.{chars}
use Rattle.clap.specs.Lexer.{long_of, short_of}
use Rattle.clap.specs.Facts.{parser_of_value}
use Rattle.clap.specs.Values.{reading_of}
use Rattle.clap.specs.Kinds.{value_kinds}
use Rattle.clap.specs.Walk.{Held, Names, Outcome, Row, Rule, Step, Text, Waiting, Walk, action_of, after_flag, after_step, arg_by_id, arg_by_index, arg_by_long, arg_by_short, attached_value, bundle, bundle_met, bundle_step, done, plain, refused, waits, idle, option, positional, next, trailing, subcommand, value, finished, flag_met, is_multiple, is_pending, long_met, long_or_other, long_word, most_values, next_position, option_met, option_word, pending_count, plain_word, positional_held, pushed, reacted, settled, settled_rows, short_met, short_or_plain, short_word, subcommand_met, subcommand_or_other, takes_several, takes_values, to_positional, used, used_as, used_by_id, values_or_missing, walk, walk_from, walked, walked_from, with_default, default_rows, has_row, reading_by, word_met}
use Rattle.clap.specs.declared.builder.value_parser.ValueParser.{ValueParser}

-- b is a with a parser that takes the same values
pub record Alike (a b : Rule) : Type 0 where
  pub rest : b ≡ record a { parser = b.parser }
  pub kinds : (text : Text) → value_kinds b.ignore_case (parser_of_value b.parser) text ≡ value_kinds a.ignore_case (parser_of_value a.parser) text
  pub reading : reading_of (parser_of_value b.parser) ≡ reading_of (parser_of_value a.parser)

abbrev pub AllAlike : List Rule → List Rule → Type 0
AllAlike [] [] = Unit {0}
AllAlike [] (b ∷ d) = ⊥
AllAlike (a ∷ c) [] = ⊥
AllAlike (a ∷ c) (b ∷ d) = Alike a b × AllAlike c d

abbrev pub BothAlike : Option Rule → Option Rule → Type 0
BothAlike None None = Unit {0}
BothAlike None (Some b) = ⊥
BothAlike (Some a) None = ⊥
BothAlike (Some a) (Some b) = Alike a b

-- a test that doesn't read the parser
abbrev pub Ignores : (Rule → Bool) → Type 0
Ignores test = (a : Rule) (parser : Option ValueParser) → test (record a { parser = parser }) ≡ test a

pub same_test : (test : Rule → Bool) → Ignores test → (a b : Rule) → Alike a b → test b ≡ test a
same_test test ignores a b s = ap test s.rest ∙ ignores a b.parser

found : (test : Rule → Bool) → Ignores test → (c d : List Rule) → AllAlike c d → BothAlike (find test c) (find test d)
found test ignores [] [] s = tt
found test ignores [] (b ∷ d) s = absurd s
found test ignores (a ∷ c) [] s = absurd s
found test ignores (a ∷ c) (b ∷ d) s = go (test a) (test b) (same_test test ignores a b s.0) (found test ignores c d s.1)
  where
    go : (x y : Bool) → y ≡ x → BothAlike (find test c) (find test d) → BothAlike (cond x (Some a) (find test c)) (cond y (Some b) (find test d))
    go true true e rest = s.0
    go true false e rest = cc
    go false true e rest = cc
    go false false e rest = rest

-- ---- one argument

pub missing : (a b : Rule) → Alike a b → (values : List Text) → values_or_missing b values ≡ values_or_missing a values
missing a b s [] = ap (λ (r : Rule). r.missing) s.rest
missing a b s (v ∷ vs) = refl

pub use_rows : (a b : Rule) → Alike a b → (values : List Text) (rows : List Row) → used b values rows ≡ used a values rows
use_rows a b s values rows =
    ap (λ (r : Rule). used_as (action_of r) r.id (reading_by b) (values_or_missing b values) rows) s.rest
    ∙ ap₂ (λ how vs. used_as (action_of a) a.id how vs rows) s.reading (missing a b s values)

module _ (c d : List Rule) (s : AllAlike c d) where
  pub by_id : (id : Text) → BothAlike (arg_by_id c id) (arg_by_id d id)
  by_id id = found (λ a. bytes_eq a.id id) (λ a parser. refl) c d s

  pub by_index : (n : ℕ) → BothAlike (arg_by_index c n) (arg_by_index d n)
  by_index n = found _ (λ a parser. refl) c d s

  pub by_long : (name : Text) → BothAlike (arg_by_long c name) (arg_by_long d name)
  by_long name = found _ (λ a parser. refl) c d s

  pub by_short : (x : ℕ) → BothAlike (arg_by_short c x) (arg_by_short d x)
  by_short x = found _ (λ a parser. refl) c d s

  -- ---- the walk

  by_id_rows : (o q : Option Rule) → BothAlike o q → (values : List Text) (rows : List Row) → used_by_id q values rows ≡ used_by_id o values rows
  by_id_rows None None e values rows = refl
  by_id_rows None (Some b) e values rows = absurd e
  by_id_rows (Some a) None e values rows = absurd e
  by_id_rows (Some a) (Some b) e values rows = use_rows a b e values rows

  pending_rows : (p : Option (Text × List Text)) (rows : List Row) → settled_rows d p rows ≡ settled_rows c p rows
  pending_rows None rows = refl
  pending_rows (Some p) rows = by_id_rows (arg_by_id c p.0) (arg_by_id d p.0) (by_id p.0) p.1 rows

  pub settles : (h : Held) → settled d h ≡ settled c h
  settles h = ap (λ rows. record h { rows = rows; pending = None }) (pending_rows h.pending h.rows)

  pub reacts : (a b : Rule) → Alike a b → (values : List Text) (h : Held) → reacted d b values h ≡ reacted c a values h
  reacts a b e values h = ap (λ rows. record h { rows = rows; pending = None })
      (use_rows a b e values (settled d h).rows ∙ ap (λ (k : Held). used a values k.rows) (settles h))

  meets_option : (a b : Rule) → Alike a b → (v : Option Text) (h : Held) → option_met d b v h ≡ option_met c a v h
  meets_option a b e (Some v) h = ap (λ k. (k, done)) (reacts a b e (v ∷ []) h)
  meets_option a b e None h =
      ap₂ (λ (k : Held) (r : Rule). (record k { pending = Some (r.id, []) }, waits r.id)) (settles h) e.rest

  meets_flag : (a b : Rule) → Alike a b → (v : Option Text) (h : Held) → flag_met d b v h ≡ flag_met c a v h
  meets_flag a b e (Some v) h = refl
  meets_flag a b e None h = ap (λ k. (k, done)) (reacts a b e [] h)

  meets_long : (o q : Option Rule) → BothAlike o q → (v : Option Text) (h : Held) → long_met d q v h ≡ long_met c o v h
  meets_long None None e v h = refl
  meets_long None (Some b) e v h = absurd e
  meets_long (Some a) None e v h = absurd e
  meets_long (Some a) (Some b) e v h =
      ap (λ (r : Rule). if takes_values r then option_met d b v h else flag_met d b v h) e.rest
      ∙ ap₂ (λ x y. if takes_values a then x else y) (meets_option a b e v h) (meets_flag a b e v h)

  meets_short : (o q : Option Rule) → BothAlike o q → (rest : Text) (h : Held) (f g : Held → Held × Outcome) → ((k : Held) → g k ≡ f k)
      → short_met d q rest h g ≡ short_met c o rest h f
  meets_short None None e rest h f g same = refl
  meets_short None (Some b) e rest h f g same = absurd e
  meets_short (Some a) None e rest h f g same = absurd e
  meets_short (Some a) (Some b) e rest h f g same =
      ap (λ (r : Rule). if takes_values r then option_met d b (attached_value rest) h else g (reacted d b [] h)) e.rest
      ∙ ap₂ (λ x y. if takes_values a then x else y) (meets_option a b e (attached_value rest) h) (same (reacted d b [] h) ∙ ap f (reacts a b e [] h))

  meets_character : (x : Option ℕ) (flags : Text) (skip : ℕ) (so_far : Outcome) (h : Held) (f g : Text → ℕ → Outcome → Held → Held × Outcome)
      → ((t : Text) (n : ℕ) (z : Outcome) (k : Held) → g t n z k ≡ f t n z k)
      → bundle_step d x flags skip so_far h g ≡ bundle_step c x flags skip so_far h f
  meets_character None flags skip so_far h f g same = refl
  meets_character (Some x) flags zero so_far h f g same =
      meets_short (arg_by_short c x) (arg_by_short d x) (by_short x) (drop (length (encode_utf8 x)) flags) h
      (f (drop (length (encode_utf8 x)) flags) 0 done) (g (drop (length (encode_utf8 x)) flags) 0 done)
      (same (drop (length (encode_utf8 x)) flags) 0 done)
  meets_character (Some x) flags (suc skip) so_far h f g same = same (drop (length (encode_utf8 x)) flags) skip so_far h

  meets_bundle : (n : ℕ) (flags : Text) (skip : ℕ) (so_far : Outcome) (h : Held) → bundle_met d n flags skip so_far h ≡ bundle_met c n flags skip so_far h
  unfolding bundle_met
  meets_bundle zero flags skip so_far h = refl
  meets_bundle (suc n) flags skip so_far h =
      meets_character (slice_get (chars flags) 0) flags skip so_far h (bundle_met c n) (bundle_met d n) (meets_bundle n)

  takes_option : (o q : Option Rule) → BothAlike o q → (id word : Text) (h : Held) → option_word q id word h ≡ option_word o id word h
  takes_option None None e id word h = refl
  takes_option None (Some b) e id word h = absurd e
  takes_option (Some a) None e id word h = absurd e
  takes_option (Some a) (Some b) e id word h =
      ap (λ (r : Rule). (pushed id word h, if nat_lt (pending_count r (pushed id word h).pending) (most_values r) then option id else idle)) e.rest

  takes_plain : (waiting : Waiting) (word : Text) (h : Held) → plain_word d waiting word h ≡ plain_word c waiting word h
  takes_plain idle word h = refl
  takes_plain positional word h = refl
  takes_plain (option id) word h =
      ap (λ (p : Held × Waiting). (p.0, next p.1)) (takes_option (arg_by_id c id) (arg_by_id d id) (by_id id) id word h)

  after_outcome : (waiting : Waiting) (word : Text) (h : Held) (o : Outcome) → after_flag d waiting word h o ≡ after_flag c waiting word h o
  after_outcome waiting word h done = refl
  after_outcome waiting word h (waits id) = refl
  after_outcome waiting word h plain = takes_plain waiting word h
  after_outcome waiting word h refused = takes_plain waiting word h

  takes_long : (waiting : Waiting) (word name : Text) (v : Option Text) (h : Held) → long_word d waiting word name v h ≡ long_word c waiting word name v h
  takes_long waiting word name v h =
      let met = long_met c (arg_by_long c name) v h in
      ap (λ (m : Held × Outcome). after_flag d waiting word m.0 m.1) (meets_long (arg_by_long c name) (arg_by_long d name) (by_long name) v h)
      ∙ after_outcome waiting word (long_met c (arg_by_long c name) v h).0 (long_met c (arg_by_long c name) v h).1

  takes_short : (waiting : Waiting) (word flags : Text) (h : Held) → short_word d waiting word flags h ≡ short_word c waiting word flags h
  takes_short waiting word flags h =
      ap (λ (m : Held × Outcome). after_flag d waiting word m.0 m.1) (meets_bundle (length flags) flags h.skip plain (record h { skip = 0 }))
      ∙ after_outcome waiting word (bundle c flags h).0 (bundle c flags h).1

  takes_flags : (waiting : Waiting) (word : Text) (flags : Option Text) (h : Held) → short_or_plain d waiting word flags h ≡ short_or_plain c waiting word flags h
  takes_flags waiting word None h = takes_plain waiting word h
  takes_flags waiting word (Some flags) h = takes_short waiting word flags h

  takes_name : (waiting : Waiting) (word : Text) (name : Option (Text × Option Text)) (h : Held)
      → long_or_other d waiting word name h ≡ long_or_other c waiting word name h
  takes_name waiting word None h = takes_flags waiting word (short_of word) h
  takes_name waiting word (Some p) h = takes_long waiting word p.0 p.1 h

  takes_other : (name : Option Text) (waiting : Waiting) (n : ℕ) (word : Text) (h : Held)
      → subcommand_or_other d name waiting n word h ≡ subcommand_or_other c name waiting n word h
  takes_other (Some name) waiting n word h = refl
  takes_other None waiting n word h =
      ap (λ x. if bytes_eq word (45 ∷ 45 ∷ []) then (h, trailing n) else x) (takes_name waiting word (long_of word) h)

  pub meets_word : (names : Names) (is_trailing : Bool) (waiting : Waiting) (n : ℕ) (word : Text) (h : Held)
      → word_met d names is_trailing waiting n word h ≡ word_met c names is_trailing waiting n word h
  meets_word names is_trailing waiting n word h =
      ap (λ x. if is_trailing then (h, value) else x) (takes_other (subcommand_met names waiting word) waiting n word h)

  holds_positional : (a b : Rule) → Alike a b → (word : Text) (h : Held) → positional_held d b word h ≡ positional_held c a word h
  holds_positional a b e word h =
      ap (λ (r : Rule). pushed r.id word (if is_pending r h.pending && takes_several r then h else settled d h)) e.rest
      ∙ ap (λ k. pushed a.id word (if is_pending a h.pending && takes_several a then h else k)) (settles h)

  steps_to : (o q : Option Rule) → BothAlike o q → (word : Text) (w : Walk) (h : Held) → to_positional d q word w h ≡ to_positional c o word w h
  steps_to None None e word w h = refl
  steps_to None (Some b) e word w h = absurd e
  steps_to (Some a) None e word w h = absurd e
  steps_to (Some a) (Some b) e word w h =
      ap (λ (r : Rule). record {
        held = positional_held d b word h;
        waiting = if is_multiple r then positional else idle;
        position = next_position r w.position;
        is_trailing = w.is_trailing || r.trailing_var_arg;
        stopped = None;
      }) e.rest
      ∙ ap (λ (k : Held). record {
        held = k;
        waiting = if is_multiple a then positional else idle;
        position = next_position a w.position;
        is_trailing = w.is_trailing || a.trailing_var_arg;
        stopped = None;
      }) (holds_positional a b e word h)

  steps : (word : Text) (w : Walk) (h : Held) (step : Step) → after_step d word w h step ≡ after_step c word w h step
  steps word w h (next waiting) = refl
  steps word w h (trailing n) = refl
  steps word w h (subcommand name) = refl
  steps word w h value = steps_to (arg_by_index c w.position) (arg_by_index d w.position) (by_index w.position) word w h

  walks_from : (names : Names) (p : Option (Text × List Text)) (w : Walk) (word : Text) → walked_from d names p w word ≡ walked_from c names p w word
  walks_from names (Some p) w word = refl
  walks_from names None w word =
      ap (λ (m : Held × Step). after_step d word w m.0 m.1) (meets_word names w.is_trailing w.waiting w.position word w.held)
      ∙ steps word w (word_met c names w.is_trailing w.waiting w.position word w.held).0 (word_met c names w.is_trailing w.waiting w.position word w.held).1

  pub walks_on : (names : Names) (w : Walk) (word : Text) → walked d names w word ≡ walked c names w word
  unfolding walked
  walks_on names w word = walks_from names w.stopped w word

  walks_all : (names : Names) (words : List Text) (w : Walk) → fold (walked d names) w words ≡ fold (walked c names) w words
  walks_all names [] w = refl
  walks_all names (word ∷ rest) w =
      ap (λ (k : Walk). fold (walked d names) k rest) (walks_on names w word) ∙ walks_all names rest (walked c names w word)

  pub walks : (names : Names) (h : Held) (words : List Text) → walk d names h words ≡ walk c names h words
  walks names h words = walks_all names words (walk_from h)

-- ---- defaults

pub takes_default : (a b : Rule) → Alike a b → (rows : List Row) → with_default rows b ≡ with_default rows a
takes_default a b s rows =
    ap (λ (r : Rule). if has_row r.id rows then rows else default_rows r.id (reading_by b) r.defaults rows) s.rest
    ∙ ap (λ how. if has_row a.id rows then rows else default_rows a.id how a.defaults rows) s.reading

takes_defaults : (c d : List Rule) → AllAlike c d → (rows : List Row) → fold with_default rows d ≡ fold with_default rows c
takes_defaults [] [] s rows = refl
takes_defaults [] (b ∷ d) s rows = absurd s
takes_defaults (a ∷ c) [] s rows = absurd s
takes_defaults (a ∷ c) (b ∷ d) s rows =
    ap (λ k. fold with_default k d) (takes_default a b s.0 rows) ∙ takes_defaults c d s.1 (with_default rows a)

pub finishes : (c d : List Rule) → AllAlike c d → (h : Held) → finished d h ≡ finished c h
finishes c d s h = ap (λ (k : Held). fold with_default k.rows d) (settles c d s h) ∙ takes_defaults c d s (settled c h).rows

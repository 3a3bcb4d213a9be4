-- What the state after a legal word shows of the word: its counts; and that the order of entries and changes at one
-- count doesn't matter to it.
use Rattle.std.specs.Prelude.{◌≡◌, ℕ, ◌+◌, ◌≤◌, Bool, true, false, ◌&&◌, not, is_some, cond, Option, Some, None, Ok, Err, List, [], ◌∷◌, ◌++◌, length, drop, map, slice_get, get_or, refl}
use Rattle.std.proofs.Common.{ap, sym, ◌∙◌, subst, arith, suc, add-one, append_assoc, append-nil, length-append, drop-cons}
use Rattle.std.proofs.Math.ListN.{drop_of_length-le}
use Rattle.std.proofs.lemmas.List.{map-append}
use Rattle.std.proofs.lemmas.Bool.{and_parts, ltb-true, ltb-false}
use Rattle.std.proofs.lemmas.Option.{slice_get-get_or}
use Rattle.ccp_base.specs.declared.ack.Ack.{Ack}
use Rattle.portus_core.specs.Programs.{Form}
use Rattle.flow_core.specs.World.{Era}
use Rattle.scene_members.specs.declared.open_case.OpenCase.{OpenCase}
use Rattle.portus_build.specs.TextWalk.{program_of}
use Rattle.open_flow.specs.declared.letter.OpenLetter.{OpenLetter}
use Rattle.open_flow.specs.declared.letter.OpenLetter.TheVariants.{A, I, G}
use Rattle.open_flow.specs.OpenWorld.{Installed, Running, OpenWorld, opening, cwnd_of, run_in, world_with_entry, was_started, first_left, next_entry, eras_in, eras_of, with_change}
use Rattle.open_flow.specs.OpenWords.{next_ack, after_letter, world_from, install_world, is_legal, legal_from}
use Rattle.live_install.specs.WholeBooks.{IsHistory}
use Rattle.live_install.specs.WordsShown.{without_entries, AreAlike}
use Rattle.live_install.proofs.CountLemmas.{acks_in, entry_counts, change_counts, alike-entries}

-- at how many acknowledgements the epochs began
abbrev pub starts : List Era → List ℕ
starts eras = map (λ (era : Era). era.at) eras

abbrev pub starts_of : OpenWorld → List ℕ
starts_of w = starts (eras_of w)

-- ---- an acknowledgement

ran-same : (case : OpenCase) (ack : Ack) (present : Option Running) (w : OpenWorld)
    → ((run_in case ack present (record w { present = present })).acks ≡ w.acks)
    × ((run_in case ack present (record w { present = present })).entries ≡ w.entries)
    × ((run_in case ack present (record w { present = present })).installed ≡ w.installed)
    × (starts_of (run_in case ack present (record w { present = present })) ≡ starts (eras_in w.past present))
ran-same case ack None w = (refl, refl, refl, refl)
ran-same case ack (Some running) w = (
  refl,
  refl,
  refl,
  map-append (λ (era : Era). era.at) w.past _ ∙ sym (map-append (λ (era : Era). era.at) w.past (running.era ∷ [])),
)

-- ---- an entry

put-same : (text : Option (List ℕ)) (w : OpenWorld)
    → ((world_with_entry text w).acks ≡ w.acks) × (eras_of (world_with_entry text w) ≡ eras_of w)
put-same None w = (refl, refl)
put-same (Some text) w = (refl, refl)

-- ---- a change

changed-same : (case : OpenCase) (next : Option (ℕ × Form)) (w : OpenWorld)
    → ((with_change case next w).acks ≡ w.acks) × ((with_change case next w).entries ≡ w.entries) × ((with_change case next w).installed ≡ w.installed)
changed-same case None w = (refl, refl, refl)
changed-same case (Some next) w = (refl, refl, refl)

changed-starts : (case : OpenCase) (next : Option (ℕ × Form)) (w : OpenWorld) → is_some next ≡ true
    → starts_of (with_change case next w) ≡ starts_of w ++ length w.acks ∷ []
changed-starts case None w is = absurd (let wrong : false ≡ true = is in (cc))
changed-starts case (Some next) w is = map-append (λ (era : Era). era.at) (eras_of w) _

-- the first one left stays so if more entries come
first_left-more : (eras : List Era) (step : ℕ) (entries more : List Installed) → is_some (first_left eras step entries) ≡ true
    → first_left eras step (entries ++ more) ≡ first_left eras step entries
first_left-more eras step [] more is = absurd (let wrong : false ≡ true = is in (cc))
first_left-more eras step (Ok form ∷ rest) more is =
    go (λ some. first_left-more eras (step + 1) rest more some) (was_started step eras) is
  where
    go : (is_some (first_left eras (step + 1) rest) ≡ true → first_left eras (step + 1) (rest ++ more) ≡ first_left eras (step + 1) rest)
        → (started : Bool) → is_some (cond started (first_left eras (step + 1) rest) (Some (step, form))) ≡ true
        → cond started (first_left eras (step + 1) (rest ++ more)) (Some (step, form)) ≡ cond started (first_left eras (step + 1) rest) (Some (step, form))
    go later true some = later some
    go later false some = refl
first_left-more eras step (Err refusal ∷ rest) more is = first_left-more eras (step + 1) rest more is

module _ (case : OpenCase) where
  abbrev all : List Installed
  all = map program_of case.steps

  -- the entries that are in, and those that are still to come
  abbrev AreIn : OpenWorld → Type 0
  AreIn w = w.entries ++ map program_of (drop (length w.entries) case.steps) ≡ all

  -- ---- a letter

  acked : (w : OpenWorld)
      → ((after_letter case w A).acks ≡ w.acks ++ next_ack case w ∷ [])
      × ((after_letter case w A).entries ≡ w.entries)
      × ((after_letter case w A).installed ≡ w.installed)
      × (starts_of (after_letter case w A) ≡ starts_of w)
  acked w = ran-same case (next_ack case w) w.present
      (record w { acks = w.acks ++ next_ack case w ∷ []; windows = w.windows ++ cwnd_of case w ∷ [] })

  more-acks : (w : OpenWorld) → length (after_letter case w A).acks ≡ length w.acks + 1
  more-acks w = ap (λ (acks : List Ack). length acks) (acked w).0 ∙ length-append w.acks (next_ack case w ∷ [])

  text-there : (w : OpenWorld) → is_legal case w I ≡ true → slice_get case.steps (length w.entries) ≡ Some (get_or case.steps (length w.entries) [])
  text-there w legal = slice_get-get_or case.steps (length w.entries) [] (ltb-true (length w.entries) (length case.steps) legal)

  put-is : (w : OpenWorld) → is_legal case w I ≡ true
      → after_letter case w I ≡ world_with_entry (Some (get_or case.steps (length w.entries) [])) w
  put-is w legal = ap (λ text. world_with_entry text w) (text-there w legal)

  put-counts : (w : OpenWorld) → is_legal case w I ≡ true → (after_letter case w I).installed ≡ w.installed ++ length w.acks ∷ []
  put-counts w legal = ap (λ (next : OpenWorld). next.installed) (put-is w legal)

  put-in : (w : OpenWorld) → is_legal case w I ≡ true → AreIn w → AreIn (after_letter case w I)
  put-in w legal are =
      let text = get_or case.steps (length w.entries) [] in
      let below = ltb-true (length w.entries) (length case.steps) legal in
      let left : drop (length w.entries) case.steps ≡ text ∷ drop (suc (length w.entries)) case.steps = drop-cons case.steps (length w.entries) [] below in
      let long : length (w.entries ++ program_of text ∷ []) ≡ suc (length w.entries) = length-append w.entries (program_of text ∷ []) ∙ add-one (length w.entries) in
      subst AreIn (sym (put-is w legal))
      (ap (λ n. (w.entries ++ program_of text ∷ []) ++ map program_of (drop n case.steps)) long
      ∙ append_assoc w.entries (program_of text ∷ []) (map program_of (drop (suc (length w.entries)) case.steps))
      ∙ ap (λ texts. w.entries ++ map program_of texts) (sym left)
      ∙ are)

  -- ---- a word

  pub acks-of : (w : OpenWorld) (word : List OpenLetter) → length (world_from case w word).acks ≡ length w.acks + acks_in word
  acks-of w [] = omega arith
  acks-of w (A ∷ rest) =
      let more = more-acks w in
      let later = acks-of (after_letter case w A) rest in
      omega (arith, more, later)
  acks-of w (I ∷ rest) =
      acks-of (after_letter case w I) rest
      ∙ ap (λ (acks : List Ack). length acks + acks_in rest) (put-same (slice_get case.steps (length w.entries)) w).0
  acks-of w (G ∷ rest) =
      acks-of (after_letter case w G) rest ∙ ap (λ (acks : List Ack). length acks + acks_in rest) (changed-same case (next_entry w) w).0

  pub installed-of : (w : OpenWorld) (word : List OpenLetter) → legal_from case w word ≡ true
      → (world_from case w word).installed ≡ w.installed ++ entry_counts (length w.acks) word
  installed-of w [] legal = sym (append-nil w.installed)
  installed-of w (A ∷ rest) legal =
      let parts = and_parts (is_legal case w A) (legal_from case (after_letter case w A) rest) legal in
      installed-of (after_letter case w A) rest parts.1
      ∙ (λ i. (acked w).2 i ++ entry_counts (more-acks w i) rest)
  installed-of w (I ∷ rest) legal =
      let next = after_letter case w I in
      let parts = and_parts (is_legal case w I) (legal_from case next rest) legal in
      let same = put-same (slice_get case.steps (length w.entries)) w in
      installed-of next rest parts.1
      ∙ (λ i. put-counts w parts.0 i ++ entry_counts (length (same.0 i)) rest)
      ∙ append_assoc w.installed (length w.acks ∷ []) (entry_counts (length w.acks) rest)
  installed-of w (G ∷ rest) legal =
      let next = after_letter case w G in
      let parts = and_parts (is_legal case w G) (legal_from case next rest) legal in
      let same = changed-same case (next_entry w) w in
      installed-of next rest parts.1 ∙ (λ i. same.2 i ++ entry_counts (length (same.0 i)) rest)

  pub starts-of : (w : OpenWorld) (word : List OpenLetter) → legal_from case w word ≡ true
      → starts_of (world_from case w word) ≡ starts_of w ++ change_counts (length w.acks) word
  starts-of w [] legal = sym (append-nil (starts_of w))
  starts-of w (A ∷ rest) legal =
      let parts = and_parts (is_legal case w A) (legal_from case (after_letter case w A) rest) legal in
      starts-of (after_letter case w A) rest parts.1
      ∙ (λ i. (acked w).3 i ++ change_counts (more-acks w i) rest)
  starts-of w (I ∷ rest) legal =
      let next = after_letter case w I in
      let parts = and_parts (is_legal case w I) (legal_from case next rest) legal in
      let same = put-same (slice_get case.steps (length w.entries)) w in
      starts-of next rest parts.1 ∙ (λ i. starts (same.1 i) ++ change_counts (length (same.0 i)) rest)
  starts-of w (G ∷ rest) legal =
      let next = after_letter case w G in
      let parts = and_parts (is_legal case w G) (legal_from case next rest) legal in
      let same = changed-same case (next_entry w) w in
      starts-of next rest parts.1
      ∙ (λ i. changed-starts case (next_entry w) w parts.0 i ++ change_counts (length (same.0 i)) rest)
      ∙ append_assoc (starts_of w) (length w.acks ∷ []) (change_counts (length w.acks) rest)

  in-after : (w : OpenWorld) (letter : OpenLetter) → is_legal case w letter ≡ true → AreIn w → AreIn (after_letter case w letter)
  in-after w A legal are = subst (λ (entries : List Installed). entries ++ map program_of (drop (length entries) case.steps) ≡ all) (sym (acked w).1) are
  in-after w I legal are = put-in w legal are
  in-after w G legal are =
      subst (λ (entries : List Installed). entries ++ map program_of (drop (length entries) case.steps) ≡ all) (sym (changed-same case (next_entry w) w).1) are

  are-in : (w : OpenWorld) (word : List OpenLetter) → legal_from case w word ≡ true → AreIn w → AreIn (world_from case w word)
  are-in w [] legal are = are
  are-in w (letter ∷ rest) legal are =
      let parts = and_parts (is_legal case w letter) (legal_from case (after_letter case w letter) rest) legal in
      are-in (after_letter case w letter) rest parts.1 (in-after w letter parts.0 are)

  counted-put : (text : Option (List ℕ)) (w : OpenWorld) → length w.installed ≡ length w.entries
      → length (world_with_entry text w).installed ≡ length (world_with_entry text w).entries
  counted-put None w is = is
  counted-put (Some text) w is =
      let installed = length-append w.installed (length w.acks ∷ []) in
      let entries = length-append w.entries (program_of text ∷ []) in
      omega (arith, installed, entries, is)

  counted-after : (w : OpenWorld) (letter : OpenLetter) → length w.installed ≡ length w.entries
      → length (after_letter case w letter).installed ≡ length (after_letter case w letter).entries
  counted-after w A is = ap (λ (ns : List ℕ). length ns) (acked w).2 ∙ is ∙ sym (ap (λ (entries : List Installed). length entries) (acked w).1)
  counted-after w I is = counted-put (slice_get case.steps (length w.entries)) w is
  counted-after w G is =
      let same = changed-same case (next_entry w) w in
      ap (λ (ns : List ℕ). length ns) same.2 ∙ is ∙ sym (ap (λ (entries : List Installed). length entries) same.1)

  counted-from : (w : OpenWorld) (word : List OpenLetter) → length w.installed ≡ length w.entries
      → length (world_from case w word).installed ≡ length (world_from case w word).entries
  counted-from w [] is = is
  counted-from w (letter ∷ rest) is = counted-from (after_letter case w letter) rest (counted-after w letter is)

  -- each entry has its count
  pub counted-entries : (word : List OpenLetter) → length (install_world case word).installed ≡ length (install_world case word).entries
  counted-entries word = counted-from opening word refl

  -- ---- the state with all entries in from the beginning

  abbrev with-all : OpenWorld → OpenWorld
  with-all w = record w { entries = all; installed = [] }

  all-ran : (ack : Ack) (present : Option Running) (w : OpenWorld)
      → with-all (run_in case ack present (record w { present = present })) ≡ run_in case ack present (record (with-all w) { present = present })
  all-ran ack None w = refl
  all-ran ack (Some running) w = refl

  all-put : (text : Option (List ℕ)) (w : OpenWorld) → with-all (world_with_entry text w) ≡ with-all w
  all-put None w = refl
  all-put (Some text) w = refl

  all-changed : (next : Option (ℕ × Form)) (w : OpenWorld) → with-all (with_change case next w) ≡ with_change case next (with-all w)
  all-changed None w = refl
  all-changed (Some next) w = refl

  all-next : (w : OpenWorld) → AreIn w → is_legal case w G ≡ true → next_entry (with-all w) ≡ next_entry w
  all-next w are legal =
      ap (first_left (eras_of w) 0) (sym are)
      ∙ first_left-more (eras_of w) 0 w.entries (map program_of (drop (length w.entries) case.steps)) legal

  after-A : (w : OpenWorld) → with-all (after_letter case w A) ≡ after_letter case (with-all w) A
  after-A w = all-ran (next_ack case w) w.present
      (record w { acks = w.acks ++ next_ack case w ∷ []; windows = w.windows ++ cwnd_of case w ∷ [] })

  after-G : (w : OpenWorld) → AreIn w → is_legal case w G ≡ true → with-all (after_letter case w G) ≡ after_letter case (with-all w) G
  after-G w are legal = all-changed (next_entry w) w ∙ ap (λ next. with_change case next (with-all w)) (sym (all-next w are legal))

  all-after : (w : OpenWorld) (word : List OpenLetter) → AreIn w → legal_from case w word ≡ true
      → with-all (world_from case w word) ≡ world_from case (with-all w) (without_entries word)
  all-after w [] are legal = refl
  all-after w (A ∷ rest) are legal =
      let next = after_letter case w A in
      let parts = and_parts (is_legal case w A) (legal_from case next rest) legal in
      all-after next rest (in-after w A parts.0 are) parts.1
      ∙ ap (λ (v : OpenWorld). world_from case v (without_entries rest)) (after-A w)
  all-after w (I ∷ rest) are legal =
      let next = after_letter case w I in
      let parts = and_parts (is_legal case w I) (legal_from case next rest) legal in
      all-after next rest (in-after w I parts.0 are) parts.1
      ∙ ap (λ (v : OpenWorld). world_from case v (without_entries rest)) (all-put (slice_get case.steps (length w.entries)) w)
  all-after w (G ∷ rest) are legal =
      let next = after_letter case w G in
      let parts = and_parts (is_legal case w G) (legal_from case next rest) legal in
      all-after next rest (in-after w G parts.0 are) parts.1
      ∙ ap (λ (v : OpenWorld). world_from case v (without_entries rest)) (after-G w are parts.0)

  -- ---- histories

  -- all acknowledgements are in
  acks-within : (w : OpenWorld) (word : List OpenLetter) → legal_from case w word ≡ true → length w.acks ≤ case.acks
      → length (world_from case w word).acks ≤ case.acks
  acks-within w [] legal within = within
  acks-within w (letter ∷ rest) legal within =
      let parts = and_parts (is_legal case w letter) (legal_from case (after_letter case w letter) rest) legal in
      acks-within (after_letter case w letter) rest parts.1 (one w letter parts.0 within)
    where
      one : (w : OpenWorld) (letter : OpenLetter) → is_legal case w letter ≡ true → length w.acks ≤ case.acks
          → length (after_letter case w letter).acks ≤ case.acks
      one w A legal within =
          let more = more-acks w in
          let below = ltb-true (length w.acks) case.acks legal in
          omega (arith, more, below)
      one w I legal within =
          let same = ap (λ (acks : List Ack). length acks) (put-same (slice_get case.steps (length w.entries)) w).0 in
          omega (arith, same, within)
      one w G legal within =
          let same = ap (λ (acks : List Ack). length acks) (changed-same case (next_entry w) w).0 in
          omega (arith, same, within)

  not-more : (a b c : Bool) → (not a && not b && not c) ≡ true → (a ≡ false) × (b ≡ false)
  not-more false false c is = (refl, refl)
  not-more false true c is = absurd (let wrong : false ≡ true = is in (cc))
  not-more true b c is = absurd (let wrong : false ≡ true = is in (cc))

  module _ (word : List OpenLetter) (history : IsHistory (case, word)) where
    ended : (is_legal case (install_world case word) A ≡ false) × (is_legal case (install_world case word) I ≡ false)
    ended = not-more (is_legal case (install_world case word) A) (is_legal case (install_world case word) I) (is_legal case (install_world case word) G) history.complete

    pub acks-all : acks_in word ≡ case.acks
    acks-all =
        let least : case.acks ≤ length (install_world case word).acks = ltb-false (length (install_world case word).acks) case.acks ended.0 in
        let most : length (install_world case word).acks ≤ case.acks = acks-within opening word history.legal (omega arith) in
        let count : length (install_world case word).acks ≡ 0 + acks_in word = acks-of opening word in
        omega (arith, least, most, count)

    pub entries-all : (install_world case word).entries ≡ map program_of case.steps
    entries-all =
        let entries = (install_world case word).entries in
        let least : length case.steps ≤ length entries = ltb-false (length entries) (length case.steps) ended.1 in
        let none : drop (length entries) case.steps ≡ [] = drop_of_length-le case.steps least in
        sym (append-nil entries) ∙ ap (λ texts. entries ++ map program_of texts) (sym none) ∙ are-in opening word history.legal refl

    pub installed-are : (install_world case word).installed ≡ entry_counts 0 word
    installed-are = installed-of opening word history.legal

    pub starts-are : starts_of (install_world case word) ≡ change_counts 0 word
    starts-are = starts-of opening word history.legal

    pub all-with : with-all (install_world case word) ≡ world_from case (with-all opening) (without_entries word)
    all-with = all-after opening word refl history.legal

  -- alike histories have one state
  pub alike-worlds : (word other : List OpenLetter) → IsHistory (case, word) → IsHistory (case, other) → AreAlike word other
      → install_world case word ≡ install_world case other
  alike-worlds word other history other_history alike =
      let same : with-all (install_world case word) ≡ with-all (install_world case other) =
      all-with word history ∙ ap (world_from case (with-all opening)) alike.changes ∙ sym (all-with other other_history) in
      let entries = entries-all word history ∙ sym (entries-all other other_history) in
      let installed = installed-are word history ∙ alike-entries word other alike ∙ sym (installed-are other other_history) in
      λ i. record (same i) { entries = entries i; installed = installed i }

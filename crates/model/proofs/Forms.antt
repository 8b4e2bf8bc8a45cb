-- An account is well-formed exactly if what its image shows passes the test of it, and that image shows the account. Assumes nothing.
use Prim.Native.Nat.{ℕ, zero, suc, ◌+◌, ◌*◌, ◌<◌, ◌≤◌}
use mathlib.Core.Path.{◌≡◌, refl, sym, ap, ◌∙◌, fun_ext}
use mathlib.Core.Bool.{true, false, ◌&&◌, and-true, and-false, and_assoc}
use mathlib.Core.List.{List, [], ◌∷◌, ◌++◌, map, append_assoc, append-nil}
use native.Mathlib.Omega.{arith}
use native.Mathlib.Decide.{dec_lt}
use lib.ListN.{length, length-map, get_or-eq_default}
use lib.Dec.{leb, ltb, eqb}
use borrow.Author.Tests.{eq-eqb, ne_eqb, leb-true, le-leb, ltb-true, lt-ltb}
use Rattle.model.specs.Lists.{filter, all, every, upward, sum_below}
use Rattle.model.specs.Account.{Held, Record, absent, present, Account, fresh_counters, empty, account_fits, held_count}
use Rattle.model.specs.Accepting.{stream_fits, WellFormed}
use Rattle.model.specs.Image.{Present, Item, Form, shown, form}
use Rattle.model.specs.Decoding.{mine, find, counters_at, account, item_fits, held_fits, records_fit, form_fits}
use Rattle.model.specs.declared.Counters.{Counters}
use Rattle.model.proofs.Tests.{nth, all_append, all_snoc, if_ap, filter_append}
use Rattle.model.proofs.Buckets.{length_upward, keeps_none, keeps_one, singles, length_singles, get_or_singles, all_in, all_of}
use Rattle.model.proofs.Shows.{item, both, form_account}

-- ---- held entries

module _ (i : ℕ) where
  pub mine_append : (xs ys : List Item) → mine i (xs ++ ys) ≡ mine i xs ++ mine i ys
  unfolding mine
  mine_append [] ys = refl
  mine_append (x ∷ xs) ys = rw (mine_append xs ys) (sym (if_ap (λ hs. hs ++ mine i ys) (eqb x.stream i) (x.entry ∷ mine i xs) (mine i xs)))

  mine_own : (hs : List Held) → mine i (map (item i) hs) ≡ hs
  unfolding mine
  mine_own [] = refl
  mine_own (h ∷ hs) = rw (eq-eqb i i refl, mine_own hs)

  mine_other : (j : ℕ) (hs : List Held) → (j ≡ i → ⊥) → mine i (map (item j) hs) ≡ []
  unfolding mine
  mine_other j [] n = refl
  mine_other j (h ∷ hs) n = rw (ne_eqb j i n) (mine_other j hs n)

module _ (k c : ℕ) (ss : List Counters) where
  pub held_append : (before xs ys : List Item) → held_fits k c ss before (xs ++ ys) ≡ (held_fits k c ss before xs && held_fits k c ss (before ++ xs) ys)
  unfolding held_fits
  held_append before [] ys = rw (append-nil before)
  held_append before (x ∷ xs) ys = rw (held_append (before ++ x ∷ []) xs ys, append_assoc before (x ∷ []) xs) (simp and_assoc)

  -- the entries before are of streams up to i, and those of stream i are hs
  abbrev pub Before : ℕ → List Held → List Item → Type 0
  Before i hs before = (all (λ g. leb g.stream i) before ≡ true) × (mine i before ≡ hs)

  -- the entries of one stream
  block : (i : ℕ) (pre hs : List Held) (before : List Item) → Before i pre before → held_fits k c ss before (map (item i) hs) ≡ stream_fits (length ss) k i c (counters_at ss i).epoch pre hs
  unfolding held_fits stream_fits item_fits every
  block i pre [] before b = refl
  block i pre (h ∷ hs) before b =
      let a' : all (λ g. leb g.stream i) (before ++ item i h ∷ []) ≡ true = all_snoc (λ g. leb g.stream i) before (item i h) ∙ rw (b.0, le-leb i i (omega arith)) in
      let m' : mine i (before ++ item i h ∷ []) ≡ pre ++ h ∷ [] = mine_append i before (item i h ∷ []) ∙ rw (b.1, mine_own i (h ∷ [])) in
      rw (block i (pre ++ h ∷ []) hs (before ++ item i h ∷ []) (a', m'), b.0, b.1) (simp and-true)

  later : (i j : ℕ) (hs : List Held) (before : List Item) → i < j → Before j [] before → Before j [] (before ++ map (item i) hs)
  unfolding all
  later i j hs before l b =
      (all_append (λ g. leb g.stream j) before (map (item i) hs) ∙ rw b.0 (low hs), mine_append j before (map (item i) hs) ∙ rw b.1 (mine_other j i hs (λ e. omega arith)))
    where
      low : (hs : List Held) → all (λ g. leb g.stream j) (map (item i) hs) ≡ true
      low [] = refl
      low (h ∷ hs) = rw (le-leb i j (omega arith), low hs)

  pub blocks : (H : ℕ → List Held) (n i : ℕ) (before : List Item) → ((j : ℕ) → i ≤ j → Before j [] before)
      → held_fits k c ss before (upward n i (λ j. map (item j) (H j))) ≡ all (λ j. stream_fits (length ss) k j c (counters_at ss j).epoch [] (H j)) (singles (λ j. j) n i)
  unfolding upward all held_fits
  blocks H zero i before u = refl
  blocks H (suc n) i before u =
      held_append before (map (item i) (H i)) _
      ∙ rw (block i [] (H i) before (u i (omega arith)), blocks H n (suc i) (before ++ map (item i) (H i)) (λ j l. later i j (H i) before l (u j (omega arith))))

-- ---- the records

module _ (f k : ℕ) (small : k ≤ 128) where
  one_record : (i j least : ℕ) (y : Record) (rest : List Present) → i < f → j < k → least ≤ 128 * i + j → ((l : ℕ) → l ≤ 128 * i + suc j → records_fit f k l rest ≡ true) → records_fit f k least (shown i j y ++ rest) ≡ true
  unfolding shown records_fit every
  one_record i j least absent rest h a b r = r least (omega arith)
  one_record i j least (present z) rest h a b r = rw (lt-ltb i f h, lt-ltb j k a, le-leb least (128 * i + j) b, r (suc (128 * i + j)) (omega arith))

  row : (i : ℕ) (x : ℕ → Record) (rest : List Present) (m j least : ℕ) → i < f → j + m ≤ k → least ≤ 128 * i + j
      → ((l : ℕ) → l ≤ 128 * suc i → records_fit f k l rest ≡ true) → records_fit f k least (upward m j (λ j. shown i j (x j)) ++ rest) ≡ true
  unfolding upward
  row i x rest zero j least h a b r = r least (omega arith)
  row i x rest (suc m) j least h a b r =
      rw (append_assoc (shown i j (x j)) (upward m (suc j) (λ j. shown i j (x j))) rest)
      (one_record i j least (x j) (upward m (suc j) (λ j. shown i j (x j)) ++ rest) h (omega arith) b (λ l q. row i x rest m (suc j) l h (omega arith) q r))

  table : (x : ℕ → ℕ → Record) (m i least : ℕ) → i + m ≤ f → least ≤ 128 * i → records_fit f k least (upward m i (λ i. upward k 0 (λ j. shown i j (x i j)))) ≡ true
  unfolding upward records_fit
  table x zero i least h b = refl
  table x (suc m) i least h b = row i (x i) (upward m (suc i) (λ i. upward k 0 (λ j. shown i j (x i j)))) k 0 least (omega arith) (omega arith) (omega arith) (λ l q. table x m (suc i) l (omega arith) q)

-- the first of those found, as a record
first_of : List Present → Record
first_of [] = absent
first_of (r ∷ rs) = present r.value

module _ (i k : ℕ) where
  find_first : (rs : List Present) → find i k rs ≡ first_of (filter (both i k) rs)
  unfolding find filter first_of
  find_first [] = refl
  find_first (r ∷ rs) = rw (find_first rs) (sym (if_ap first_of (both i k r) (r ∷ filter (both i k) rs) (filter (both i k) rs)))

  shown_back : (y : Record) → first_of (filter (both i k) (shown i k y)) ≡ y
  unfolding filter shown first_of
  shown_back absent = refl
  shown_back (present v) = rw (eq-eqb i i refl, eq-eqb k k refl)

  shown_other : (j l : ℕ) (y : Record) → (eqb j i && eqb l k) ≡ false → filter (both i k) (shown j l y) ≡ []
  unfolding filter shown
  shown_other j l absent n = refl
  shown_other j l (present v) n = rw n

-- ---- the account's form

module _ (a : Account) where
  abbrev f : ℕ
  f = a.fragments

  pub streams_length : length (form a).streams ≡ f
  unfolding form
  streams_length = length_singles (λ i. (a.at i).counters) f 0

  pub held_length : length (form a).held ≡ held_count a
  unfolding form held_count sum_below
  held_length = let z : 0 + f ≡ f = omega arith in omega (arith, rw z at (length_upward f 0 (λ i. map (item i) (a.at i).held)), ap (λ g. sum_below g f) (fun_ext (λ i. length-map (a.at i).held (item i))))

  counters_back : (i : ℕ) → i < f → counters_at (form a).streams i ≡ (a.at i).counters
  unfolding form
  counters_back i h = let z : 0 + i ≡ i = omega arith in get_or_singles (λ i. (a.at i).counters) fresh_counters f 0 i h ∙ rw z

  held_all : held_fits a.keys a.closed (form a).streams [] (form a).held ≡ all (λ j. stream_fits f a.keys j a.closed (counters_at (form a).streams j).epoch [] (a.at j).held) (singles (λ j. j) f 0)
  unfolding form all mine
  held_all = blocks a.keys a.closed (form a).streams (λ j. (a.at j).held) f 0 [] (λ j l. (refl, refl)) ∙ rw streams_length

  records_all : a.keys ≤ 128 → records_fit f a.keys 0 (form a).records ≡ true
  unfolding form
  records_all h = table f a.keys h (λ i k. (a.at i).records k) f 0 0 (omega arith) (omega arith)

  -- ---- what the form shows of a fragment

  held_within : (i : ℕ) → i < f → mine i (form a).held ≡ (a.at i).held
  unfolding form mine
  held_within i h = keeps_one (mine i) refl (mine_append i) (λ j. map (item j) (a.at j).held) f 0 i (omega arith) (omega arith) (λ j. mine_other i j (a.at j).held) ∙ mine_own i (a.at i).held

  held_outside : (i : ℕ) → f ≤ i → mine i (form a).held ≡ []
  unfolding form mine
  held_outside i h = keeps_none (mine i) refl (mine_append i) (λ j. map (item j) (a.at j).held) f 0 (λ j l u. mine_other i j (a.at j).held (λ e. omega arith))

  module _ (i k : ℕ) where
    abbrev row_of : ℕ → List Present
    row_of j = upward a.keys 0 (λ l. shown j l ((a.at j).records l))

    row_other : (j : ℕ) → ((l : ℕ) → l < a.keys → (eqb j i && eqb l k) ≡ false) → filter (both i k) (row_of j) ≡ []
    unfolding filter
    row_other j n = keeps_none (filter (both i k)) refl (filter_append (both i k)) (λ l. shown j l ((a.at j).records l)) a.keys 0 (λ l z u. shown_other i k j l ((a.at j).records l) (n l (omega arith)))

    record_within : i < f → k < a.keys → find i k (form a).records ≡ (a.at i).records k
    unfolding form filter
    record_within h l =
        find_first i k (form a).records
        ∙ ap first_of (keeps_one (filter (both i k)) refl (filter_append (both i k)) row_of f 0 i (omega arith) (omega arith) (λ j n. row_other j (λ l u. rw (ne_eqb j i n)))
        ∙ keeps_one (filter (both i k)) refl (filter_append (both i k)) (λ l. shown i l ((a.at i).records l)) a.keys 0 k (omega arith) (omega arith) (λ l n. shown_other i k i l ((a.at i).records l) (rw (ne_eqb l k n) (and-false (eqb i i)))))
        ∙ shown_back i k ((a.at i).records k)

    record_outside : ((j l : ℕ) → j < f → l < a.keys → (eqb j i && eqb l k) ≡ false) → find i k (form a).records ≡ absent
    unfolding form filter first_of
    record_outside n = find_first i k (form a).records ∙ ap first_of (keeps_none (filter (both i k)) refl (filter_append (both i k)) row_of f 0 (λ j z u. row_other j (λ l v. n j l (omega arith) v)))

    no_fragment_shown : f ≤ i → find i k (form a).records ≡ absent
    no_fragment_shown h = record_outside (λ j l u v. rw (ne_eqb j i (λ e. omega arith)))

    no_key_shown : a.keys ≤ k → find i k (form a).records ≡ absent
    no_key_shown h = record_outside (λ j l u v. rw (ne_eqb l k (λ e. omega arith)) (and-false (eqb j i)))

  nothing_outside : (i : ℕ) → f ≤ i → (account (form a)).at i ≡ empty
  unfolding account
  nothing_outside i h = let d = get_or-eq_default (form a).streams fresh_counters {n = i} (omega (arith, streams_length)) in λ t. record { counters = d t; held = held_outside i h t; records = λ k. no_fragment_shown i k h t }

  -- ---- well-formed, and passing the test

  keys_small : account_fits a.number f a.keys ≡ true → a.keys ≤ 128
  unfolding account_fits
  keys_small e = leb-true a.keys 128 (nth _ e 5)

  form_well_formed : form_fits (form a) ≡ true → account (form a) ≡ a → WellFormed a
  unfolding form_fits form account
  form_well_formed w q =
      let n = nth _ w in
      record {
        fits = rw streams_length at (n 0);
        room = omega (arith, leb-true (length (form a).held) 256 (n 1), held_length);
        opened = λ i h. ltb-true a.closed (a.at i).counters.epoch (all_in (λ i. (a.at i).counters) (λ s. ltb a.closed s.epoch) f 0 (n 2) i (omega arith) (omega arith));
        streams = λ i h. rw (counters_back i h) at (all_in (λ j. j) _ f 0 (sym held_all ∙ n 4) i (omega arith) (omega arith));
        no_fragment = λ i h. sym (ap (λ b. b.at i) q) ∙ nothing_outside i h;
        no_key = λ i k h. sym (ap (λ b. (b.at i).records k) q) ∙ no_key_shown i k h;
      }

module _ {a : Account} where
  pub form_fits_law : WellFormed a → form_fits (form a) ≡ true
  unfolding form_fits every form
  form_fits_law w =
      let o : all (λ s. ltb a.closed s.epoch) (form a).streams ≡ true = all_of (λ i. (a.at i).counters) (λ s. ltb a.closed s.epoch) a.fragments 0 (λ i l u. lt-ltb a.closed (a.at i).counters.epoch (w.opened i (omega arith))) in
      let h : held_fits a.keys a.closed (form a).streams [] (form a).held ≡ true =
      held_all a ∙ all_of (λ j. j) _ a.fragments 0 (λ i l u. let q : i < a.fragments = omega arith in rw (counters_back a i q) (w.streams i q)) in
      rw (streams_length a, w.fits, held_length a, le-leb (held_count a) 256 w.room, o, records_all a (keys_small a w.fits), h)

  pub account_form : WellFormed a → account (form a) ≡ a
  unfolding account form
  account_form w = λ t. record { number = a.number; fragments = streams_length a t; keys = a.keys; closed = a.closed; at = λ i. at_back i (dec_lt i a.fragments) t }
    where
      record_back : (i k : ℕ) → i < a.fragments → Dec (k < a.keys) → find i k (form a).records ≡ (a.at i).records k
      record_back i k h (yes l) = record_within a i k h l
      record_back i k h (no l) = no_key_shown a i k (omega arith) ∙ sym (w.no_key i k (omega arith))

      at_back : (i : ℕ) → Dec (i < a.fragments) → (account (form a)).at i ≡ a.at i
      at_back i (yes h) = λ t. record { counters = counters_back a i h t; held = held_within a i h t; records = λ k. record_back i k h (dec_lt k a.keys) t }
      at_back i (no h) = nothing_outside a i (omega arith) ∙ sym (w.no_fragment i (omega arith))

pub well_formed : (x : Form) → form_fits x ≡ true → WellFormed (account x)
well_formed x w = let e = form_account x w in form_well_formed (account x) (rw e w) (ap account e)

-- What an image shows and the account that it shows: each is got back from the other. Assumes nothing.
use Prim.Native.Nat.{ℕ, suc, ◌+◌, ◌*◌, ◌<◌, ◌≤◌}
use mathlib.Core.Path.{◌≡◌, refl, sym, ◌∙◌}
use mathlib.Core.Bool.{Bool, true, false, ◌&&◌}
use mathlib.Core.List.{List, [], ◌∷◌, ◌++◌, map}
use native.Mathlib.Omega.{arith}
use lib.ListN.{length}
use lib.Dec.{leb, ltb, eqb}
use borrow.Author.Tests.{eqb-true, leb-true, ltb-true}
use Rattle.std.specs.Prelude.{if◌then◌else◌}
use Rattle.model.specs.Lists.{filter, all, every, upward}
use Rattle.model.specs.Entry.{in_account}
use Rattle.model.specs.Account.{Held, present, fresh_counters, account_fits}
use Rattle.model.specs.Accepting.{entry_fits}
use Rattle.model.specs.Image.{Present, Item, Form, shown, form}
use Rattle.model.specs.Decoding.{mine, find, account, item_fits, held_fits, place, records_fit, form_fits}
use Rattle.model.specs.declared.Counters.{Counters}
use Rattle.model.proofs.Tests.{and_l, and_r, nth, all_snoc, filter_filter}
use Rattle.model.proofs.Buckets.{upward_cong, singles_get_or, Rising, at, buckets}

-- ---- held entries

abbrev pub item : ℕ → Held → Item
item i h = record { stream = i; entry = h }

mine_at : (i : ℕ) (es : List Item) → map (item i) (mine i es) ≡ at (λ e. e.stream) i es
unfolding mine filter
mine_at i [] = refl
mine_at i (e ∷ es) = go (eqb e.stream i) refl (mine_at i es)
  where
    go : (b : Bool) → eqb e.stream i ≡ b → map (item i) (mine i es) ≡ at (λ e. e.stream) i es
        → map (item i) (if b then e.entry ∷ mine i es else mine i es) ≡ (if b then e ∷ at (λ e. e.stream) i es else at (λ e. e.stream) i es)
    go true q ih = let s = eqb-true e.stream i q in λ t. record { stream = sym s t; entry = e.entry } ∷ ih t
    go false q ih = ih

-- entries that rise by stream are their streams' entries, one stream after the other
pub by_streams : (f : ℕ) (es : List Item) → Rising (λ e. e.stream) 0 f es → upward f 0 (λ i. map (item i) (mine i es)) ≡ es
by_streams f es r =
    upward_cong f 0 (λ i. map (item i) (mine i es)) (λ i. at (λ e. e.stream) i es) (λ i l u. mine_at i es)
    ∙ buckets (λ e. e.stream) f f 0 es (omega arith) r

module _ (k c : ℕ) (ss : List Counters) where
  pub held_rising : (m : ℕ) (before es : List Item) → ((e : Item) → all (λ g. leb g.stream e.stream) before ≡ true → m ≤ e.stream)
      → held_fits k c ss before es ≡ true → Rising (λ e. e.stream) m (length ss) es
  unfolding held_fits item_fits entry_fits in_account Rising
  held_rising m before [] f w = tt
  held_rising m before (e ∷ es) f w =
      let n = nth _ (and_l (item_fits k c ss before e) _ w) in (
        f e (n 0),
        ltb-true e.stream (length ss) (nth _ (nth _ (n 1) 2) 0),
        held_rising e.stream (before ++ e ∷ []) es (λ g a. leb-true e.stream g.stream (and_r (all (λ d. leb d.stream g.stream) before) _ (sym (all_snoc (λ d. leb d.stream g.stream) before e) ∙ a))) (and_r (item_fits k c ss before e) _ w),
      )

-- ---- records

abbrev pub both : ℕ → ℕ → Present → Bool
both i k r = eqb r.fragment i && eqb r.key k

module _ (f keys : ℕ) (small : keys ≤ 128) where
  record Head (least : ℕ) (r : Present) (rs : List Present) : Type 0 where
    inside : r.fragment < f
    keyed : r.key < keys
    later : least ≤ place r
    rest : records_fit f keys (suc (place r)) rs ≡ true

  head : (least : ℕ) (r : Present) (rs : List Present) → records_fit f keys least (r ∷ rs) ≡ true → Head least r rs
  unfolding records_fit
  head least r rs w =
      let t = every (ltb r.fragment f ∷ ltb r.key keys ∷ leb least (place r) ∷ []) in
      let n = nth _ (and_l t _ w) in
      record { inside = ltb-true _ _ (n 0); keyed = ltb-true _ _ (n 1); later = leb-true least (place r) (n 2); rest = and_r t _ w }

  fragments_rise : (m least : ℕ) (rs : List Present) → 128 * m ≤ least → records_fit f keys least rs ≡ true → Rising (λ r. r.fragment) m f rs
  unfolding Rising
  fragments_rise m least [] l w = tt
  fragments_rise m least (r ∷ rs) l w = let h = head least r rs w in (omega arith, h.inside, fragments_rise r.fragment (suc (place r)) rs (omega arith) h.rest)

  module _ (i : ℕ) where
    abbrev row : List Present → List Present
    row rs = at (λ r. r.fragment) i rs

    keys_rise : (m least : ℕ) (rs : List Present) → ((k : ℕ) → least ≤ 128 * i + k → m ≤ k) → records_fit f keys least rs ≡ true → Rising (λ r. r.key) m keys (row rs)
    unfolding Rising filter
    keys_rise m least [] l w = tt
    keys_rise m least (r ∷ rs) l w = go (eqb r.fragment i) refl (λ n. keys_rise n (suc (place r)) rs)
      where
        h : Head least r rs
        h = head least r rs w

        go : (b : Bool) → eqb r.fragment i ≡ b → ((n : ℕ) → ((k : ℕ) → suc (place r) ≤ 128 * i + k → n ≤ k) → records_fit f keys (suc (place r)) rs ≡ true → Rising (λ r. r.key) n keys (row rs))
            → Rising (λ r. r.key) m keys (if b then r ∷ row rs else row rs)
        go true e ih = let z = eqb-true r.fragment i e in (l r.key (omega (arith, h.later)), h.keyed, ih r.key (λ k u. omega arith) h.rest)
        go false e ih = ih m (λ k u. l k (omega (arith, h.later))) h.rest

    module _ (k : ℕ) where
      here : (r : Present) → both i k r ≡ true → (r.fragment ≡ i) × (r.key ≡ k)
      here r e = (eqb-true r.fragment i (and_l _ _ e), eqb-true r.key k (and_r (eqb r.fragment i) _ e))

      gone : (least : ℕ) (rs : List Present) → 128 * i + k < least → records_fit f keys least rs ≡ true → filter (both i k) rs ≡ []
      unfolding filter
      gone least [] l w = refl
      gone least (r ∷ rs) l w = go (both i k r) refl (gone (suc (place r)) rs (omega (arith, h.later)) h.rest)
        where
          h : Head least r rs
          h = head least r rs w

          go : (b : Bool) → both i k r ≡ b → filter (both i k) rs ≡ [] → (if b then r ∷ filter (both i k) rs else filter (both i k) rs) ≡ []
          go true e ih = absurd (omega (arith, h.later, (here r e).0, (here r e).1))
          go false e ih = ih

      single : (least : ℕ) (rs : List Present) → records_fit f keys least rs ≡ true → shown i k (find i k rs) ≡ filter (both i k) rs
      unfolding filter find shown
      single least [] w = refl
      single least (r ∷ rs) w = go (both i k r) refl (single (suc (place r)) rs h.rest)
        where
          h : Head least r rs
          h = head least r rs w

          go : (b : Bool) → both i k r ≡ b → shown i k (find i k rs) ≡ filter (both i k) rs
              → shown i k (if b then present r.value else find i k rs) ≡ (if b then r ∷ filter (both i k) rs else filter (both i k) rs)
          go true e ih =
              let p = (here r e).0 in
              let q = (here r e).1 in
              rw (gone (suc (place r)) rs (omega arith) h.rest) (λ t. record { fragment = sym p t; key = sym q t; value = r.value } ∷ [])
          go false e ih = ih

    row_back : (rs : List Present) → records_fit f keys 0 rs ≡ true → upward keys 0 (λ k. shown i k (find i k rs)) ≡ row rs
    row_back rs w =
        upward_cong keys 0 (λ k. shown i k (find i k rs)) (λ k. at (λ r. r.key) k (row rs)) (λ k l u. single k 0 rs w ∙ sym (filter_filter (λ r. eqb r.key k) (λ r. eqb r.fragment i) rs))
        ∙ buckets (λ r. r.key) keys keys 0 (row rs) (omega arith) (keys_rise 0 0 rs (λ k u. omega arith) w)

  records_back : (rs : List Present) → records_fit f keys 0 rs ≡ true → upward f 0 (λ i. upward keys 0 (λ k. shown i k (find i k rs))) ≡ rs
  records_back rs w =
      upward_cong f 0 (λ i. upward keys 0 (λ k. shown i k (find i k rs))) (λ i. row i rs) (λ i l u. row_back i rs w)
      ∙ buckets (λ r. r.fragment) f f 0 rs (omega arith) (fragments_rise 0 0 rs (omega arith) w)

pub form_account : (x : Form) → form_fits x ≡ true → form (account x) ≡ x
unfolding form account form_fits account_fits
form_account x w =
    let n = nth _ w in
    let f = length x.streams in
    let r = records_back f x.keys (leb-true x.keys 128 (nth _ (n 0) 5)) x.records (n 3) in
    let h = by_streams f x.held (held_rising x.keys x.closed x.streams 0 [] x.held (λ e a. omega arith) (n 4)) in
    λ i. record { number = x.number; keys = x.keys; closed = x.closed; streams = singles_get_or fresh_counters x.streams i; records = r i; held = h i }

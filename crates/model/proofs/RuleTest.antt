-- A test of the five log rules: streams that pass it keep them. With it the worked case of the page is shown to keep all five. Assumes nothing.
use Prim.Native.Nat.{ℕ, zero, suc, ◌+◌, ◌≤◌, ◌<◌}
use mathlib.Core.Path.{◌≡◌, refl, sym, ap, ◌∙◌}
use mathlib.Core.Logic.{◌⊎◌, inl, inr, ◌≢◌}
use mathlib.Core.Bool.{Bool, true, false, not, ◌&&◌, ◌||◌}
use mathlib.Core.List.{List, [], ◌∷◌}
use native.Mathlib.Omega.{arith}
use native.Mathlib.Decide.{ℕ_discrete}
use lib.Dec.{leb, ltb, eqb}
use lib.ListN.{get_or}
use borrow.Author.Tests.{eq-eqb, ne_eqb, eqb-true, lt-ltb, ltb-true, le-leb, leb-true}
use Rattle.std.specs.Prelude.{if◌then◌else◌}
use Rattle.model.specs.Lists.{every}
use Rattle.model.specs.Entry.{PUT, DELETE, P, CC, CP, A}
use Rattle.model.specs.Account.{Held, key, coordinator}
use Rattle.model.specs.Rules.{in_epochs, At, here, there, Stands, Is, Ends, LogRules}
use Rattle.model.specs.declared.Entry.{Entry}
use Rattle.model.proofs.Tests.{no_way, and_l, and_r, either, nth}

-- ---- every entry of every stream, and some entry of some stream

-- where the conditions hold, so does c
unfoldable pub implies : List Bool → Bool → Bool
implies bs c = if every bs then c else true

infixr 30 ◌⊕◌
data AllTrue : List Bool → Type 0 where
  nil : AllTrue []
  ◌⊕◌ : {b : Bool} {bs : List Bool} → b ≡ true → AllTrue bs → AllTrue (b ∷ bs)

all_true : {bs : List Bool} → AllTrue bs → every bs ≡ true
unfolding every
all_true nil = refl
all_true (e ⊕ r) = rw (e, all_true r)

holds : {bs : List Bool} (c : Bool) → implies bs c ≡ true → AllTrue bs → c ≡ true
unfolding implies
holds {bs} c t e = rw (all_true e) at t

unfoldable pub all_at : (ℕ → Held → Bool) → ℕ → List Held → Bool
all_at t p [] = true
all_at t p (h ∷ hs) = t p h && all_at t (suc p) hs

unfoldable pub some_at : (ℕ → Held → Bool) → ℕ → List Held → Bool
some_at t p [] = false
some_at t p (h ∷ hs) = t p h || some_at t (suc p) hs

all_at_law : (t : ℕ → Held → Bool) (n : ℕ) {h : Held} {p : ℕ} (hs : List Held) → all_at t n hs ≡ true → At h hs p → t (n + p) h ≡ true
unfolding all_at
all_at_law t n [] w a = elim a [ ]
all_at_law t n (x ∷ xs) w (here e) = let z : n + 0 ≡ n = omega arith in rw (e, z) (and_l _ _ w)
all_at_law t n (x ∷ xs) w (there {p = p} a) = let z : n + suc p ≡ suc n + p = omega arith in rw z (all_at_law t (suc n) xs (and_r (t n x) _ w) a)

some_at_law : (t : ℕ → Held → Bool) (n : ℕ) (hs : List Held) → some_at t n hs ≡ true → (p : ℕ) × (h : Held) × At h hs p × (t (n + p) h ≡ true)
unfolding some_at
some_at_law t n [] w = no_way w
some_at_law t n (x ∷ xs) w = go (either (t n x) _ w) (some_at_law t (suc n) xs)
  where
    go : (t n x ≡ true) ⊎ (some_at t (suc n) xs ≡ true) → (some_at t (suc n) xs ≡ true → (p : ℕ) × (h : Held) × At h xs p × (t (suc n + p) h ≡ true)) → (p : ℕ) × (h : Held) × At h (x ∷ xs) p × (t (n + p) h ≡ true)
    go (inl e) ih = let z : n + 0 ≡ n = omega arith in (0, x, here refl, rw z e)
    go (inr e) ih = let r = ih e in let z : n + suc r.0 ≡ suc n + r.0 = omega arith in (suc r.0, r.1, there r.2, rw z r.3)

module _ (wrote : ℕ → List Entry) where
  unfoldable pub for_all : ℕ → (ℕ → ℕ → Held → Bool) → Bool
  for_all zero t = true
  for_all (suc f) t = for_all f t && all_at (t f) 0 (in_epochs 1 (wrote f))

  unfoldable pub exists : ℕ → (ℕ → ℕ → Held → Bool) → Bool
  exists zero t = false
  exists (suc f) t = exists f t || some_at (t f) 0 (in_epochs 1 (wrote f))

  for_all_law : (f : ℕ) (t : ℕ → ℕ → Held → Bool) → for_all f t ≡ true → {i p : ℕ} {h : Held} → i < f → At h (in_epochs 1 (wrote i)) p → t i p h ≡ true
  unfolding for_all
  for_all_law zero t w l a = absurd (omega arith)
  for_all_law (suc f) t w {i} {p} {h} l a = go (ℕ_discrete i f) (λ l a. for_all_law f t (and_l _ _ w) {i = i} {p = p} {h = h} l a)
    where
      go : Dec (i ≡ f) → (i < f → At h (in_epochs 1 (wrote i)) p → t i p h ≡ true) → t i p h ≡ true
      go (yes e) ih = let z : 0 + p ≡ p = omega arith in rw e (rw z at (all_at_law (t f) 0 (in_epochs 1 (wrote f)) (and_r (for_all f t) _ w) (rw e at a)))
      go (no e) ih = ih (omega arith) a

  there_is : (f g : ℕ) (t : ℕ → ℕ → Held → Bool) → f ≤ g → exists f t ≡ true → (i : ℕ) × (p : ℕ) × (h : Held) × Stands g wrote i p h × (t i p h ≡ true)
  unfolding exists
  there_is zero g t l w = no_way w
  there_is (suc f) g t l w = go (either (exists f t) _ w) (there_is f g t (omega arith))
    where
      go : (exists f t ≡ true) ⊎ (some_at (t f) 0 (in_epochs 1 (wrote f)) ≡ true) → (exists f t ≡ true → (i : ℕ) × (p : ℕ) × (h : Held) × Stands g wrote i p h × (t i p h ≡ true))
          → (i : ℕ) × (p : ℕ) × (h : Held) × Stands g wrote i p h × (t i p h ≡ true)
      go (inl e) ih = ih e
      go (inr e) ih =
          let r = some_at_law (t f) 0 (in_epochs 1 (wrote f)) e in
          let z : 0 + r.0 ≡ r.0 = omega arith in
          (f, r.0, r.1, record { fragment = l; at = r.2 }, rw z at r.3)

-- ---- the test of each rule

same : (h g : Held) (t : ℕ) → h.transaction ≡ t → g.transaction ≡ t → eqb h.transaction g.transaction ≡ true
same h g t p q = eq-eqb h.transaction g.transaction (p ∙ sym q)

module _ (f : ℕ) (wrote : ℕ → List Entry) (coordinator_of : ℕ → ℕ) where
  abbrev pairs : (ℕ → ℕ → Held → ℕ → ℕ → Held → Bool) → Bool
  pairs t = for_all wrote f (λ i p h. for_all wrote f (λ j q g. t i p h j q g))

  one_of : (t : ℕ → ℕ → Held → Bool) → for_all wrote f t ≡ true → {i p : ℕ} {h : Held} → Stands f wrote i p h → t i p h ≡ true
  one_of t w s = for_all_law wrote f t w s.fragment s.at

  two_of : (t : ℕ → ℕ → Held → ℕ → ℕ → Held → Bool) → pairs t ≡ true → {i j p q : ℕ} {h g : Held} → Stands f wrote i p h → Stands f wrote j q g → t i p h j q g ≡ true
  two_of t w {i} {j} {p} {q} {h} {g} x y = one_of (t i p h) (one_of (λ i p h. for_all wrote f (t i p h)) w x) y

  abbrev t1 : ℕ → ℕ → Held → Bool
  t1 i p h = implies (eqb h.kind CC ∷ []) (eqb i (coordinator_of h.transaction))

  abbrev t2 : ℕ → ℕ → Held → Bool
  t2 i p h = implies (eqb h.kind P ∷ []) (eqb (coordinator h) (coordinator_of h.transaction))

  abbrev t3 : ℕ → ℕ → Held → ℕ → ℕ → Held → Bool
  t3 i p h j q g = implies (eqb i j ∷ ltb p q ∷ eqb h.kind P ∷ eqb g.kind P ∷ eqb h.transaction g.transaction ∷ []) false

  abbrev t4 : ℕ → ℕ → Held → ℕ → ℕ → Held → Bool
  t4 i p h j q g = implies (eqb i j ∷ ltb p q ∷ leb CC h.kind ∷ leb h.kind A ∷ eqb h.transaction g.transaction ∷ []) false

  abbrev t5 : ℕ → ℕ → Held → ℕ → ℕ → Held → Bool
  t5 j c g i p h =
      implies (eqb g.kind CC ∷ leb PUT h.kind ∷ leb h.kind DELETE ∷ eqb g.transaction h.transaction ∷ not (eqb i j) ∷ [])
      (exists wrote f (λ i' q e. every (eqb i' i ∷ ltb p q ∷ eqb e.kind P ∷ eqb e.transaction h.transaction ∷ [])))

  abbrev t6 : ℕ → ℕ → Held → ℕ → ℕ → Held → Bool
  t6 j c g i p h = implies (eqb g.kind CC ∷ eqb h.kind P ∷ eqb g.transaction h.transaction ∷ []) (leb h.epoch g.epoch)

  abbrev t7 : ℕ → ℕ → Held → Bool
  t7 i p h = implies (eqb h.kind CP ∷ []) (exists wrote f (λ j c g. every (eqb g.kind CC ∷ eqb g.transaction h.transaction ∷ leb g.epoch h.epoch ∷ [])))

  abbrev t8 : ℕ → ℕ → Held → ℕ → ℕ → Held → Bool
  t8 j c g i p h = implies (eqb g.kind CC ∷ eqb h.kind A ∷ eqb g.transaction h.transaction ∷ []) false

  abbrev t9 : ℕ → ℕ → Held → ℕ → ℕ → Held → Bool
  t9 i p h j q g =
      implies (eqb i j ∷ ltb p q ∷ leb PUT h.kind ∷ leb h.kind DELETE ∷ leb PUT g.kind ∷ leb g.kind DELETE ∷ eqb (key h) (key g) ∷ not (eqb h.transaction g.transaction) ∷ [])
      (exists wrote f (λ i' r e. every (eqb i' i ∷ ltb p r ∷ ltb r q ∷ leb CC e.kind ∷ leb e.kind A ∷ eqb e.transaction h.transaction ∷ [])))

  unfoldable pub keeps_rules : Bool
  keeps_rules = every (for_all wrote f t1 ∷ for_all wrote f t2 ∷ pairs t3 ∷ pairs t4 ∷ pairs t5 ∷ pairs t6 ∷ for_all wrote f t7 ∷ pairs t8 ∷ pairs t9 ∷ [])

  differ : {m n : ℕ} → m ≢ n → not (eqb m n) ≡ true
  differ {m} {n} d = rw (ne_eqb m n d)

  pub rules_kept : keeps_rules ≡ true → LogRules f wrote
  unfolding keeps_rules
  rules_kept w = record {
    coordinator_of = coordinator_of;
    coordinator_commits = λ {i} {p} {t} {h} x k. eqb-true i _ (holds _ (one_of t1 (n 0) x) (eq-eqb h.kind CC k.0 ⊕ nil)) ∙ ap coordinator_of k.1;
    prepare_names = λ {i} {p} {t} {h} x k. eqb-true (coordinator h) _ (holds _ (one_of t2 (n 1) x) (eq-eqb h.kind P k.0 ⊕ nil)) ∙ ap coordinator_of k.1;
    one_prepare = λ {i} {p} {q} {t} {h} {g} x y l k m.
        no_way (holds _ (two_of t3 (n 2) x y) (eq-eqb i i refl ⊕ lt-ltb p q l ⊕ eq-eqb h.kind P k.0 ⊕ eq-eqb g.kind P m.0 ⊕ same h g t k.1 m.1 ⊕ nil));
    nothing_follows = λ {i} {p} {q} {t} {h} {g} x y l k m.
        no_way (holds _ (two_of t4 (n 3) x y) (eq-eqb i i refl ⊕ lt-ltb p q l ⊕ le-leb CC h.kind k.0 ⊕ le-leb h.kind A k.1 ⊕ same h g t k.2 m ⊕ nil));
    prepared_after = λ {i} {j} {p} {c} {t} {h} {g} y k x m d.
        after i p t h m.2 (there_is wrote f f _ (omega arith) (holds _ (two_of t5 (n 4) y x) (eq-eqb g.kind CC k.0 ⊕ le-leb PUT h.kind m.0 ⊕ le-leb h.kind DELETE m.1 ⊕ same g h t k.1 m.2 ⊕ differ d ⊕ nil)));
    prepared_by = λ {i} {j} {p} {c} {t} {h} {g} y k x m.
        leb-true h.epoch g.epoch (holds _ (two_of t6 (n 5) y x) (eq-eqb g.kind CC k.0 ⊕ eq-eqb h.kind P m.0 ⊕ same g h t k.1 m.1 ⊕ nil));
    commit_decided = λ {i} {p} {t} {h} x k. decided t h k.1 (there_is wrote f f _ (omega arith) (holds _ (one_of t7 (n 6) x) (eq-eqb h.kind CP k.0 ⊕ nil)));
    never_both = λ {i} {j} {p} {c} {t} {h} {g} y k x m.
        no_way (holds _ (two_of t8 (n 7) y x) (eq-eqb g.kind CC k.0 ⊕ eq-eqb h.kind A m.0 ⊕ same g h t k.1 m.1 ⊕ nil));
    key_kept = λ {i} {p} {q} {t} {u} {h} {g} x y l k m e d.
        between i p q t h k.2 (there_is wrote f f _ (omega arith) (holds _ (two_of t9 (n 8) x y)
        (eq-eqb i i refl ⊕ lt-ltb p q l ⊕ le-leb PUT h.kind k.0 ⊕ le-leb h.kind DELETE k.1 ⊕ le-leb PUT g.kind m.0 ⊕ le-leb g.kind DELETE m.1 ⊕ eq-eqb (key h) (key g) e ⊕ differ (λ s. d (sym k.2 ∙ s ∙ m.2)) ⊕ nil)));
  }
    where
      n : (i : ℕ) → get_or (for_all wrote f t1 ∷ for_all wrote f t2 ∷ pairs t3 ∷ pairs t4 ∷ pairs t5 ∷ pairs t6 ∷ for_all wrote f t7 ∷ pairs t8 ∷ pairs t9 ∷ []) i true ≡ true
      n = nth _ w

      after : (i p t : ℕ) (h : Held) → h.transaction ≡ t
          → (i' : ℕ) × (q : ℕ) × (e : Held) × Stands f wrote i' q e × (every (eqb i' i ∷ ltb p q ∷ eqb e.kind P ∷ eqb e.transaction h.transaction ∷ []) ≡ true)
          → (q : ℕ) × (e : Held) × (p < q) × Stands f wrote i q e × Is f wrote P t e
      after i p t h m (i', q, e, s, v) =
          let c = nth _ v in
          (q, e, ltb-true p q (c 1), rw (eqb-true i' i (c 0)) at s, (eqb-true e.kind P (c 2), eqb-true e.transaction h.transaction (c 3) ∙ m))

      decided : (t : ℕ) (h : Held) → h.transaction ≡ t
          → (j : ℕ) × (c : ℕ) × (g : Held) × Stands f wrote j c g × (every (eqb g.kind CC ∷ eqb g.transaction h.transaction ∷ leb g.epoch h.epoch ∷ []) ≡ true)
          → (j : ℕ) × (c : ℕ) × (g : Held) × Stands f wrote j c g × Is f wrote CC t g × (g.epoch ≤ h.epoch)
      decided t h m (j, c, g, s, v) =
          let d = nth _ v in
          (j, c, g, s, (eqb-true g.kind CC (d 0), eqb-true g.transaction h.transaction (d 1) ∙ m), leb-true g.epoch h.epoch (d 2))

      between : (i p q t : ℕ) (h : Held) → h.transaction ≡ t
          → (i' : ℕ) × (r : ℕ) × (e : Held) × Stands f wrote i' r e × (every (eqb i' i ∷ ltb p r ∷ ltb r q ∷ leb CC e.kind ∷ leb e.kind A ∷ eqb e.transaction h.transaction ∷ []) ≡ true)
          → (r : ℕ) × (e : Held) × (p < r) × (r < q) × Stands f wrote i r e × Ends f wrote t e
      between i p q t h m (i', r, e, s, v) =
          let c = nth _ v in
          (r, e, ltb-true p r (c 1), ltb-true r q (c 2), rw (eqb-true i' i (c 0)) at s, (leb-true CC e.kind (c 3), leb-true e.kind A (c 4), eqb-true e.transaction h.transaction (c 5) ∙ m))

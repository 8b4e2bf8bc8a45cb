-- What the table and the judgement give of a run's entries, with no premise on the primary: each is of a kind from 1 to 6, a P names another fragment, and before each CP stands its P. Assumes nothing.
use Prim.Native.Nat.{ℕ, suc, ◌≤◌, ◌<◌}
use mathlib.Core.Path.{◌≡◌, refl, sym, ap, ◌∙◌}
use mathlib.Core.Logic.{◌⊎◌, inl, inr, ◌≢◌}
use mathlib.Core.Bool.{Bool, true, false, not, ◌||◌}
use mathlib.Core.List.Memᴰ
use mathlib.Core.List.{List, [], ◌∷◌, ◌++◌, append_assoc, append-nil}
use native.Mathlib.Omega.{arith}
use lib.Dec.{leb, eqb}
use lib.ListN.{length}
use borrow.Author.Tests.{eqb-true, eqb-false, leb-true, eq-eqb}
use Rattle.std.specs.Prelude.{if◌then◌else◌}
use Rattle.model.specs.Entry.{is_mark, fits, fields_fit, inside, in_account, DELETE, P, CP, A, MARK}
use Rattle.model.specs.Account.{Held, coordinator, Account, fresh}
use Rattle.model.specs.Stages.{stage_after, stage_from, stage, takes}
use Rattle.model.specs.Taking.{hold, take, taken, stepped}
use Rattle.model.specs.Closing.{close, settle}
use Rattle.model.specs.Runs.{Step, taking, closing, Allowed, log}
use Rattle.model.specs.Rules.{in_epochs, At, here, there}
use Rattle.model.specs.declared.Entry.{Entry}
use Rattle.model.specs.declared.Stage.{Stage}
use Rattle.model.specs.declared.Stage.TheVariants.{Unheard, Writing, Prepared, Ended}
use Rattle.model.proofs.Tests.{no_way, and_r, nth}
use Rattle.model.proofs.Judged.{TakenFacts, taken_facts}
use Rattle.model.proofs.Working.{In, in_at, at_in}
use Rattle.model.proofs.Survivors.{Thinned, none, skip, keep, thinned_survivors, thinned_one}
use Rattle.model.proofs.Epochs.{at_below, at_first}

-- ---- a transaction that is prepared has its P held

at_prepared : (k : ℕ) → stage_after k ≡ Prepared → k ≡ P
unfolding stage_after
at_prepared k = go (leb k DELETE) (eqb k P) refl
  where
    go : (a b : Bool) → eqb k P ≡ b → (if a then Writing else if b then Prepared else Ended) ≡ Prepared → k ≡ P
    go true b q e = no_way cc
    go false true q e = eqb-true k P q
    go false false q e = no_way cc

abbrev PreparedBy : ℕ → List Held → Type 0
PreparedBy t hs = (h : Held) × In h hs × (h.kind ≡ P) × (h.transaction ≡ t)

prepared_held : (t : ℕ) (s : Stage) (hs : List Held) → stage_from t s hs ≡ Prepared → (s ≡ Prepared) ⊎ PreparedBy t hs
unfolding stage_from
prepared_held t s [] e = inl e
prepared_held t s (h ∷ hs) e = go (eqb h.transaction t) refl (prepared_held t (if eqb h.transaction t then stage_after h.kind else s) hs e)
  where
    go : (b : Bool) → eqb h.transaction t ≡ b → ((if b then stage_after h.kind else s) ≡ Prepared) ⊎ PreparedBy t hs → (s ≡ Prepared) ⊎ PreparedBy t (h ∷ hs)
    go true q (inl p) = inr (h, Memᴰ.head refl, at_prepared h.kind p, eqb-true h.transaction t q)
    go false q (inl p) = inl p
    go b q (inr r) = inr (r.0, Memᴰ.tail r.1, r.2, r.3)

takes_cp : (s : Stage) → takes CP s ≡ true → s ≡ Prepared
unfolding takes
takes_cp Unheard e = no_way e
takes_cp Writing e = no_way e
takes_cp Prepared e = refl
takes_cp Ended e = no_way e

-- ---- the entries of a stream

pub record Tabled (i : ℕ) (L : List Held) : Type 0 where
  pub kinds : {p : ℕ} {h : Held} → At h L p → (1 ≤ h.kind) × (h.kind ≤ A)
  pub other : {p : ℕ} {h : Held} → At h L p → h.kind ≡ P → coordinator h ≢ i
  pub after_p : {q : ℕ} {h : Held} → At h L q → h.kind ≡ CP → (p : ℕ) × (g : Held) × (p < q) × At g L p × (g.kind ≡ P) × (g.transaction ≡ h.transaction)

at_snoc : {h y : Held} {p : ℕ} (xs : List Held) → At h (xs ++ y ∷ []) p → (At h xs p) ⊎ ((h ≡ y) × (p ≡ length xs))
at_snoc [] (here e) = inr (e, refl)
at_snoc [] (there a) = elim a [ ]
at_snoc (x ∷ xs) (here e) = inl (here e)
at_snoc {h} {y} (x ∷ xs) (there {p = p} a) = go (at_snoc xs a)
  where
    go : (At h xs p) ⊎ ((h ≡ y) × (p ≡ length xs)) → (At h (x ∷ xs) (suc p)) ⊎ ((h ≡ y) × (suc p ≡ suc (length xs)))
    go (inl b) = inl (there b)
    go (inr (e, l)) = inr (e, ap suc l)

-- one entry more
record Next (i : ℕ) (L : List Held) (y : Held) : Type 0 where
  kinds : (1 ≤ y.kind) × (y.kind ≤ A)
  other : y.kind ≡ P → coordinator y ≢ i
  prepared : y.kind ≡ CP → PreparedBy y.transaction L

tabled_snoc : (i : ℕ) (L : List Held) (y : Held) → Tabled i L → Next i L y → Tabled i (L ++ y ∷ [])
tabled_snoc i L y T N = record {
  kinds = λ x. k (at_snoc L x);
  other = λ x e. o (at_snoc L x) e;
  after_p = λ x e. a (at_snoc L x) e;
}
  where
    k : {p : ℕ} {h : Held} → (At h L p) ⊎ ((h ≡ y) × (p ≡ length L)) → (1 ≤ h.kind) × (h.kind ≤ A)
    k (inl x) = T.kinds x
    k (inr (e, l)) = rw e N.kinds

    o : {p : ℕ} {h : Held} → (At h L p) ⊎ ((h ≡ y) × (p ≡ length L)) → h.kind ≡ P → coordinator h ≢ i
    o (inl x) q = T.other x q
    o (inr (e, l)) q = rw e (N.other (sym (ap (λ r. r.kind) e) ∙ q))

    a : {q : ℕ} {h : Held} → (At h L q) ⊎ ((h ≡ y) × (q ≡ length L)) → h.kind ≡ CP
        → (p : ℕ) × (g : Held) × (p < q) × At g (L ++ y ∷ []) p × (g.kind ≡ P) × (g.transaction ≡ h.transaction)
    a (inl x) q = let r = T.after_p x q in (r.0, r.1, r.2, at_first (y ∷ []) r.3, r.4, r.5)
    a (inr (e, l)) q =
        let r = N.prepared (sym (ap (λ r. r.kind) e) ∙ q) in
        let w = in_at r.1 in
        (w.0, r.0, omega (arith, at_below w.1), at_first (y ∷ []) w.1, r.2, r.3 ∙ sym (ap (λ r. r.transaction) e))

-- ---- a run

-- what is held was taken, in that order
abbrev Taken : Account → (ℕ → List Held) → Type 0
Taken a L = (i : ℕ) → Thinned (a.at i).held (L i)

thinned_alone : (x : Held) (ys : List Held) → Thinned (x ∷ []) (ys ++ x ∷ [])
thinned_alone x [] = keep (record { kind = refl; transaction = refl; epoch = refl }) none
thinned_alone x (y ∷ ys) = skip (thinned_alone x ys)

thinned_snoc : (x : Held) {xs ys : List Held} → Thinned xs ys → Thinned (xs ++ x ∷ []) (ys ++ x ∷ [])
thinned_snoc x (none {ys = ys}) = thinned_alone x ys
thinned_snoc x (skip m) = skip (thinned_snoc x m)
thinned_snoc x (keep s m) = keep s (thinned_snoc x m)

-- the entries taken so far, and one more
unfoldable grown : Account → Entry → (ℕ → List Held) → ℕ → List Held
grown a e L j = if eqb e.fragment j then (if is_mark e then L j else L j ++ hold e (a.at j).counters.epoch ∷ []) else L j

module _ (a : Account) (e : Entry) (L : ℕ → List Held) (F : TakenFacts a e) (I : Taken a L) where
  next : is_mark e ≡ false → Next e.fragment (L e.fragment) (hold e (a.at e.fragment).counters.epoch)
  unfolding hold fits fields_fit inside in_account
  next m = let w = nth _ (and_r (eqb e.spare 0) _ F.fit) in record {
    kinds = (leb-true 1 e.kind (w 0), let z = eqb-false e.kind MARK m in omega (arith, leb-true e.kind MARK (w 1)));
    other = λ k q. off k (nth _ F.within 3) q;
    prepared = λ k. from (prepared_held e.transaction Unheard (a.at e.fragment).held (takes_cp _ (ap (λ n. takes n (stage e.transaction (a.at e.fragment).held)) (sym k) ∙ F.stage m)));
  }
    where
      off : e.kind ≡ P → (not (eqb e.kind P) || not (eqb e.argument e.fragment)) ≡ true → e.argument ≡ e.fragment → ⊥
      off k b q = no_way (sym (rw (eq-eqb e.kind P k, eq-eqb e.argument e.fragment q)) ∙ b)

      from : (Unheard ≡ Prepared) ⊎ PreparedBy e.transaction (a.at e.fragment).held → PreparedBy e.transaction (L e.fragment)
      from (inl q) = no_way cc
      from (inr (h, x, k, t)) = let r = thinned_one (I e.fragment) (in_at x).1 in (r.1, at_in r.2, sym r.3.kind ∙ k, sym r.3.transaction ∙ t)

  grown_tabled : ((i : ℕ) → Tabled i (L i)) → (i : ℕ) → Tabled i (grown a e L i)
  unfolding grown hold
  grown_tabled T i = go (eqb e.fragment i) refl (is_mark e) refl
    where
      go : (b : Bool) → eqb e.fragment i ≡ b → (m : Bool) → is_mark e ≡ m → Tabled i (if b then (if m then L i else L i ++ hold e (a.at i).counters.epoch ∷ []) else L i)
      go true q true m = T i
      go true q false m = let z = eqb-true e.fragment i q in tabled_snoc i (L i) (hold e (a.at i).counters.epoch) (T i) (rw z at (next m))
      go false q n m = T i

  grown_taken : Taken (taken e a) (grown a e L)
  unfolding grown taken take
  grown_taken i = go (eqb e.fragment i) (is_mark e)
    where
      go : (b m : Bool) → Thinned (if b then record { counters = stepped (a.at i).counters m; held = if m then (a.at i).held else (a.at i).held ++ hold e (a.at i).counters.epoch ∷ []; records = (a.at i).records } else a.at i).held
          (if b then (if m then L i else L i ++ hold e (a.at i).counters.epoch ∷ []) else L i)
      go true true = I i
      go true false = thinned_snoc (hold e (a.at i).counters.epoch) (I i)
      go false m = I i

grown_log : (a : Account) (e : Entry) (L : ℕ → List Held) (ss : List Step) (i : ℕ)
    → grown a e L i ++ in_epochs ((taken e a).at i).counters.epoch (log ss i) ≡ L i ++ in_epochs (a.at i).counters.epoch (log (taking e ∷ ss) i)
unfolding grown taken take stepped log in_epochs
grown_log a e L ss i = go (eqb e.fragment i) (is_mark e) refl
  where
    n : ℕ
    n = (a.at i).counters.epoch

    go : (b m : Bool) → is_mark e ≡ m
        → (if b then (if m then L i else L i ++ hold e n ∷ []) else L i) ++ in_epochs (if b then record { counters = record { next = (stepped (a.at i).counters m).next; epoch = if m then suc n else n }; held = if m then (a.at i).held else (a.at i).held ++ hold e n ∷ []; records = (a.at i).records } else a.at i).counters.epoch (log ss i)
        ≡ L i ++ in_epochs n (if b then e ∷ log ss i else log ss i)
    go true true q = rw (in_epochs, q)
    go true false q = append_assoc (L i) (hold e n ∷ []) (in_epochs n (log ss i)) ∙ rw (in_epochs, q)
    go false m q = refl

taken_close : (a : Account) (L : ℕ → List Held) → Taken a L → Taken (close a) L
unfolding close settle
taken_close a L I j = thinned_survivors _ _ (I j)

after_close : (a : Account) (ss : List Step) (L : ℕ → List Held) (i : ℕ) → Tabled i (L i ++ in_epochs ((close a).at i).counters.epoch (log ss i)) → Tabled i (L i ++ in_epochs (a.at i).counters.epoch (log (closing ∷ ss) i))
unfolding close settle log
after_close a ss L i t = t

tabled_from : (ss : List Step) (a : Account) (L : ℕ → List Held) → Allowed ss a → Taken a L → ((i : ℕ) → Tabled i (L i)) → (i : ℕ) → Tabled i (L i ++ in_epochs (a.at i).counters.epoch (log ss i))
unfolding Allowed
tabled_from [] a L w I T i = unfold log in_epochs in rw (append-nil (L i)) (T i)
tabled_from (taking e ∷ ss) a L w I T i =
    let F = taken_facts a e w.0 in
    rw (← grown_log a e L ss i) (tabled_from ss (taken e a) (grown a e L) w.1 (grown_taken a e L F I) (grown_tabled a e L F I T) i)
tabled_from (closing ∷ ss) a L w I T i = after_close a ss L i (tabled_from ss (close a) L w.1 (taken_close a L I) T i)

pub tabled : (number f k : ℕ) (ss : List Step) → Allowed ss (fresh number f k) → (i : ℕ) → Tabled i (in_epochs 1 (log ss i))
unfolding fresh
tabled number f k ss w i = tabled_from ss (fresh number f k) (λ j. []) w (λ j. none) (λ j. record { kinds = λ x. nothing x; other = λ x. nothing x; after_p = λ x. nothing x }) i
  where
    nothing : {X : Type 0} {p : ℕ} {h : Held} → At h [] p → X
    nothing x = absurd (omega (arith, at_below x))

-- No close but that of its CC's epoch installs a transaction. Assumes nothing.
use Prim.Native.Nat.{ℕ, zero, suc, ◌≤◌, ◌<◌}
use mathlib.Core.Path.{◌≡◌, refl, sym, ap, ◌∙◌}
use mathlib.Core.Logic.{◌⊎◌, inl, inr}
use mathlib.Core.Bool.{Bool, true, false, not, ◌&&◌, ◌||◌, and-false}
use mathlib.Core.List.Memᴰ
use mathlib.Core.List.{List, [], ◌∷◌}
use native.Mathlib.Omega.{arith}
use native.Mathlib.Decide.{dec_le}
use lib.Dec.{eqb}
use borrow.Author.Tests.{eq-eqb}
use Rattle.std.specs.Prelude.{if◌then◌else◌}
use Rattle.model.specs.Lists.{filter, any}
use Rattle.model.specs.Entry.{P, CC, CP, A}
use Rattle.model.specs.Account.{Held, coordinator, Account}
use Rattle.model.specs.Closing.{upto, is, flagged_p, unflagged_p, Verdict, free, install, stay, verdict, committed, installs, flags, with_flag, survivors, settle, close, installed}
use Rattle.model.specs.Rules.{At}
use Rattle.model.proofs.Tests.{no_way, and_l, and_r, and}
use Rattle.model.proofs.Runs.{closes, closes_closed}
use Rattle.model.proofs.Working.{In, streams, Kept, Ordered, in_at, at_in, one_end}
use Rattle.model.proofs.Own.{of, same_verdict}
use Rattle.model.proofs.Survivors.{Same, Survived, as_was, flags_p, survived, keeps_stay, keeps_flag}
use Rattle.model.proofs.Together.{is_kind, is_transaction, to_is, upto_none, upto_some, upto_out, ends, pieces_test, verdict_of, Settles, by_end, by_flag, verdict_cc, verdict_p, Decided, DecidedIn, from_log, stays, only}

-- ---- the entries of t, here and there

in_of : (t : ℕ) {h : Held} {hs : List Held} → In h hs → h.transaction ≡ t → In h (of t hs)
unfolding of filter
in_of t (Memᴰ.head {x = x} e) q = rw (eq-eqb x.transaction t (sym (ap (λ r. r.transaction) e) ∙ q)) (Memᴰ.head e)
in_of t (Memᴰ.tail {x = x} m) q = go (eqb x.transaction t) (in_of t m q)
  where
    go : {h : Held} {ys : List Held} (b : Bool) → In h ys → In h (if b then x ∷ ys else ys)
    go true y = Memᴰ.tail y
    go false y = y

of_in : (t : ℕ) {h : Held} (hs : List Held) → In h (of t hs) → In h hs
unfolding of filter
of_in t [] y = y
of_in t {h} (x ∷ hs) y = go (eqb x.transaction t) (of_in t hs) y
  where
    cases : (In h (of t hs) → In h hs) → (h ≡ x) ⊎ In h (of t hs) → In h (x ∷ hs)
    cases ih (inl e) = Memᴰ.head e
    cases ih (inr m) = Memᴰ.tail (ih m)

    go : (b : Bool) → (In h (of t hs) → In h hs) → In h (if b then x ∷ of t hs else of t hs) → In h (x ∷ hs)
    go true ih m = cases ih (Memᴰ.cases_cons m)
    go false ih m = Memᴰ.tail (ih m)

-- ---- after its close a transaction is spent

-- a P of t that has been flagged, in an epoch up to n
abbrev FlaggedIn : List Held → ℕ → ℕ → Type 0
FlaggedIn hs t n = (p : Held) × In p hs × (p.kind ≡ P) × (p.transaction ≡ t) × (p.flagged ≡ true) × (p.epoch ≤ n)

record Spent (hs : List Held) (t n : ℕ) : Type 0 where
  no_cc : {h : Held} → In h hs → h.transaction ≡ t → h.kind ≡ CC → ⊥
  all_flagged : {h : Held} → In h hs → h.transaction ≡ t → h.kind ≡ P → h.flagged ≡ true
  pair : {h : Held} → In h hs → h.transaction ≡ t → h.kind ≡ CP → FlaggedIn hs t n

settled : {n i t : ℕ} {L : ℕ → List Held} {v : Verdict} → Settles n L i t v → v ≡ stay → ⊥
settled (by_end q e y l u k) s = no_way (cc)
settled (by_flag q) s = no_way (cc)

neither : {X : Type 0} (b d : Bool) (w : Verdict) → ((w ≡ free) × X) ⊎ (w ≡ stay) → (b && installs w || d && flags w) ≡ false
neither b d w (inl (q, r)) = rw (q, and-false b, and-false d)
neither b d w (inr q) = rw (q, and-false b, and-false d)

module _ (a : Account) (z : a.closed ≡ 0) (K : Kept (streams a)) (O : Ordered (streams a)) where
  module _ {j : ℕ} {g : Held} (x : In g (streams a j)) (c : g.kind ≡ CC) where
    -- the close of its own epoch
    module _ (m : ℕ) (e : g.epoch ≡ suc m) (i : ℕ) where
      abbrev n : ℕ
      n = suc (closes m a).closed

      abbrev H : ℕ → List Held
      H = streams (closes m a)

      abbrev v : ℕ → Verdict
      v = verdict_of n H i

      n_is : g.epoch ≡ n
      n_is = omega (arith, closes_closed m a)

      pub on_log : v g.transaction ≡ verdict_of n (streams a) i g.transaction
      on_log = same_verdict n H (streams a) g.transaction (stays a z K x c m (omega arith)) i

      p_there : {h : Held} → In h (streams a i) → h.transaction ≡ g.transaction → h.kind ≡ P → Settles n (streams a) i g.transaction (v g.transaction)
      p_there {h} y t k = rw on_log (verdict_p (streams a) K x c n n_is i h y k t)

      base_cc : {h : Held} → In h (survivors n v (H i)) → h.transaction ≡ g.transaction → h.kind ≡ CC → ⊥
      base_cc {h} y t k = go (survived n v h (H i) y)
        where
          go : Survived n v h (H i) → ⊥
          go (as_was w (inl l)) =
              let r = from_log a m {i = i} w in
              omega (arith, n_is, r.2.epoch, K.one r.1 x (sym r.2.kind ∙ k) c (sym r.2.transaction ∙ t))
          go (as_was w (inr s)) =
              let r = from_log a m {i = i} w in
              let q : install ≡ stay = sym (on_log ∙ verdict_cc (streams a) K x c n n_is i r.0 r.1 (sym r.2.kind ∙ k) (sym r.2.transaction ∙ t)) ∙ ap v (sym t) ∙ s in
              no_way (cc)
          go (flags_p s k' f) = omega arith

      base_p : {h : Held} → In h (survivors n v (H i)) → h.transaction ≡ g.transaction → h.kind ≡ P → h.flagged ≡ true
      base_p {h} y t k = go (survived n v h (H i) y)
        where
          go : Survived n v h (H i) → h.flagged ≡ true
          go (as_was w (inl l)) =
              let r = from_log a m {i = i} w in
              absurd (omega (arith, n_is, r.2.epoch, K.intime r.1 x (sym r.2.kind ∙ k) c (sym r.2.transaction ∙ t)))
          go (as_was w (inr s)) =
              let r = from_log a m {i = i} w in
              absurd (settled (p_there r.1 (sym r.2.transaction ∙ t) (sym r.2.kind ∙ k)) (ap v (sym t) ∙ s))
          go (flags_p s k' f) = f

      -- a CP that is left is of a later epoch, and its P is flagged
      base_pair : {h : Held} → In h (survivors n v (H i)) → h.transaction ≡ g.transaction → h.kind ≡ CP → FlaggedIn (survivors n v (H i)) g.transaction g.epoch
      base_pair {h} y t k = go (survived n v h (H i) y)
        where
          Pair : Type 0
          Pair = FlaggedIn (survivors n v (H i)) g.transaction g.epoch

          -- with P in the log, and f, the CP, later than n
          found : (f p : Held) → In f (streams a i) → f.transaction ≡ g.transaction → f.kind ≡ CP → n < f.epoch → In p (streams a i) → p.kind ≡ P → p.transaction ≡ g.transaction
              → Settles n (streams a) i g.transaction (v g.transaction) → Pair
          found f p yf tf kf l yp kp tp (by_end q e' ye le te (inl ke)) = absurd (O.other yp kp (K.names yp ye kp ke (tp ∙ sym te)))
          found f p yf tf kf l yp kp tp (by_end q e' ye le te (inr ke)) =
              absurd (omega (arith, ap (λ r. r.epoch) (one_end O (omega arith) (omega arith) (tf ∙ sym te) yf ye)))
          found f p yf tf kf l yp kp tp (by_flag q) =
              let b : p.epoch ≤ g.epoch = K.intime yp x kp c tp in
              let w : In p (H i) = of_in g.transaction (H i) (rw (stays a z K x c m (omega arith) i) (in_of g.transaction yp tp)) in
              (with_flag p, keeps_flag n v p (H i) w (omega (arith, n_is)) kp (ap v tp ∙ q), kp, tp, refl, b)

          go : Survived n v h (H i) → Pair
          go (as_was w s) = with_p (in_at r.1) s
            where
              r : (f : Held) × In f (streams a i) × Same h f
              r = from_log a m {i = i} w

              with_p : (q : ℕ) × At r.0 (streams a i) q → (n < h.epoch) ⊎ (v h.transaction ≡ stay) → Pair
              with_p (q, b) (inl l) =
                  let tf : r.0.transaction ≡ g.transaction = sym r.2.transaction ∙ t in
                  let kf : r.0.kind ≡ CP = sym r.2.kind ∙ k in
                  let u = O.after_p b kf in
                  found r.0 u.1 r.1 tf kf (omega (arith, r.2.epoch)) (at_in u.3) u.4 (u.5 ∙ tf) (p_there (at_in u.3) (u.5 ∙ tf) u.4)
              with_p (q, b) (inr st) =
                  let u = O.after_p b (sym r.2.kind ∙ k) in
                  absurd (settled (p_there (at_in u.3) (u.5 ∙ sym r.2.transaction ∙ t) u.4) (ap v (sym t) ∙ st))
          go (flags_p s k' f) = absurd (omega arith)

    -- a later close: its CP frees it, and nothing else becomes of it
    module _ (m : ℕ) (b : g.epoch ≤ m) (S : (i : ℕ) → Spent (streams (closes m a) i) g.transaction g.epoch) (i : ℕ) where
      abbrev n' : ℕ
      n' = suc (closes m a).closed

      abbrev H' : ℕ → List Held
      H' = streams (closes m a)

      abbrev v' : ℕ → Verdict
      v' = verdict_of n' H' i

      abbrev Freed : Type 0
      Freed = (v' g.transaction ≡ free) × ((f : Held) × In f (H' i) × (f.epoch ≤ n') × (f.transaction ≡ g.transaction) × (f.kind ≡ CP))

      spent_verdict : Freed ⊎ (v' g.transaction ≡ stay)
      unfolding verdict
      spent_verdict = go (any (is CP g.transaction) (upto n' (H' i))) refl
        where
          t : ℕ
          t = g.transaction

          e_a : any (is A t) (upto n' (H' i)) ≡ false
          e_a = upto_none _ n' (H' i) (λ h w l e. let r = from_log a m {i = i} w in K.kept r.1 x (sym r.2.kind ∙ is_kind A t h e) c (sym r.2.transaction ∙ is_transaction A t h e))

          e_c : any (is CC t) (upto n' (H' i)) ≡ false
          e_c = upto_none _ n' (H' i) (λ h w l e. (S i).no_cc w (is_transaction CC t h e) (is_kind CC t h e))

          no_p : (h : Held) → In h (H' i) → unflagged_p t h ≡ true → ⊥
          no_p h w e = never ((S i).all_flagged w (is_transaction P t h (and_l _ _ e)) (is_kind P t h (and_l _ _ e))) (and_r (is P t h) _ e)
            where
              never : {f : Bool} → f ≡ true → not f ≡ true → ⊥
              never p q = no_way (sym (ap not p) ∙ q)

          e_u : any (unflagged_p t) (upto n' (H' i)) ≡ false
          e_u = upto_none _ n' (H' i) (λ h w l e. no_p h w e)

          e_p : any (λ h. unflagged_p t h && committed n' H' (coordinator h) t) (upto n' (H' i)) ≡ false
          e_p = upto_none _ n' (H' i) (λ h w l e. no_p h w (and_l _ _ e))

          go : (d : Bool) → any (is CP t) (upto n' (H' i)) ≡ d → Freed ⊎ (v' g.transaction ≡ stay)
          go true q =
              let r = upto_out (is CP t) n' (H' i) q in
              let u = (S i).pair r.1 (is_transaction CP t r.0 r.3) (is_kind CP t r.0 r.3) in
              let w : any (flagged_p t) (upto n' (H' i)) ≡ true = upto_some _ n' u.1 (omega (arith, u.5, closes_closed m a)) (and (to_is u.0 u.2 u.3) u.4) in
              inl (rw (e_a, e_c, q, e_u, w), (r.0, r.1, r.2, is_transaction CP t r.0 r.3, is_kind CP t r.0 r.3))
          go false q = inr (rw (e_a, e_c, q, e_p))

      later : Spent (survivors n' v' (H' i)) g.transaction g.epoch
      later = record {
        no_cc = λ {h} y t k. still_no_cc (survived n' v' h (H' i) y) t k;
        all_flagged = λ {h} y t k. still_flagged (survived n' v' h (H' i) y) t k;
        pair = λ {h} y t k. still_pair (survived n' v' h (H' i) y) t k spent_verdict;
      }
        where
          still_no_cc : {h : Held} → Survived n' v' h (H' i) → h.transaction ≡ g.transaction → h.kind ≡ CC → ⊥
          still_no_cc (as_was w s) t k = (S i).no_cc w t k
          still_no_cc (flags_p s k' f) t k = omega arith

          still_flagged : {h : Held} → Survived n' v' h (H' i) → h.transaction ≡ g.transaction → h.kind ≡ P → h.flagged ≡ true
          still_flagged (as_was w s) t k = (S i).all_flagged w t k
          still_flagged (flags_p s k' f) t k = f

          freed : v' g.transaction ≡ free → v' g.transaction ≡ stay → ⊥
          freed q s = no_way (cc)

          still_pair : {h : Held} → Survived n' v' h (H' i) → h.transaction ≡ g.transaction → h.kind ≡ CP → Freed ⊎ (v' g.transaction ≡ stay) → FlaggedIn (survivors n' v' (H' i)) g.transaction g.epoch
          still_pair (as_was w s) t k (inr q) = let u = (S i).pair w t k in (u.0, keeps_stay n' v' u.0 (H' i) u.1 (ap v' u.3 ∙ q), u.2, u.3, u.4, u.5)
          still_pair (as_was w (inr s)) t k (inl (q, r)) = absurd (freed q (ap v' (sym t) ∙ s))
          still_pair {h} (as_was w (inl l)) t k (inl (q, (f, yf, lf, tf, kf))) =
              let r = from_log a m {i = i} w in
              let r' = from_log a m {i = i} yf in
              absurd (omega (arith, r.2.epoch, r'.2.epoch, ap (λ y. y.epoch) (one_end O (omega (arith, r.2.kind)) (omega (arith, r'.2.kind)) (sym r.2.transaction ∙ t ∙ sym tf ∙ r'.2.transaction) r.1 r'.1)))
          still_pair (flags_p s k' f) t k q = absurd (omega arith)

    spent : (m : ℕ) → g.epoch ≤ m → (i : ℕ) → Spent (streams (closes m a) i) g.transaction g.epoch
    unfolding closes close settle
    spent zero l i = absurd (omega (arith, K.begun x))
    spent (suc m) l i = go (dec_le g.epoch m) (spent m)
      where
        go : Dec (g.epoch ≤ m) → (g.epoch ≤ m → (i : ℕ) → Spent (streams (closes m a) i) g.transaction g.epoch) → Spent (streams (closes (suc m) a) i) g.transaction g.epoch
        go (yes b) ih = later m b (ih b) i
        go (no b) ih = let e : g.epoch ≡ suc m = omega arith in record { no_cc = base_cc m e i; all_flagged = base_p m e i; pair = base_pair m e i }

    -- no later close lists it
    not_again : (m : ℕ) → g.epoch ≤ m → (i : ℕ) → any (λ u. eqb u g.transaction) (installed (closes m a) i) ≡ false
    unfolding installed
    not_again m l i =
        let es = upto (suc (closes m a).closed) (streams (closes m a) i) in
        let w = v' m l (spent m l) i in
        pieces_test w g.transaction es ∙ neither (any (ends g.transaction) es) (any (is P g.transaction) es) (w g.transaction) (spent_verdict m l (spent m l) i)

  -- what a close installs has its CC in the epoch that is closed
  pub once : (m i t : ℕ) → any (λ u. eqb u t) (installed (closes m a) i) ≡ true → DecidedIn (streams a) (suc m) t
  once m i t e = go (only a z K m i t e)
    where
      go : Decided (streams a) (suc m) t → DecidedIn (streams a) (suc m) t
      go (j, g, x, c, q, l) = cases (dec_le g.epoch m)
        where
          cases : Dec (g.epoch ≤ m) → DecidedIn (streams a) (suc m) t
          cases (yes b) = no_way (sym (rw (← q) (not_again x c m b i)) ∙ e)
          cases (no b) = (j, g, x, c, q, omega arith)

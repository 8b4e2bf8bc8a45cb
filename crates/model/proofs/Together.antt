-- A transaction is installed at all its fragments, in one close, or at none. Assumes nothing.
use Prim.Native.Nat.{ℕ, zero, suc, pred, ◌≤◌, ◌<◌}
use mathlib.Core.Path.{◌≡◌, refl, sym, ap, ◌∙◌}
use mathlib.Core.Logic.{◌⊎◌, inl, inr}
use mathlib.Core.Bool.{Bool, true, false, ◌&&◌, ◌||◌, and-true, and-false, or-true, and-or_distrib_right}
use mathlib.Core.List.{List, [], ◌∷◌, map}
use native.Mathlib.Omega.{arith}
use lib.Dec.{leb, eqb}
use borrow.Author.Tests.{le-leb, leb-true, eqb-true, eq-eqb}
use Rattle.std.specs.Prelude.{if◌then◌else◌}
use Rattle.model.specs.Lists.{filter, any}
use Rattle.model.specs.Entry.{P, CC, CP, A}
use Rattle.model.specs.Account.{Held, coordinator, Account}
use Rattle.model.specs.Closing.{upto, is, flagged_p, unflagged_p, Verdict, free, install, flag, stay, verdict, committed, installs, flags, pieces, settle, close, installed}
use Rattle.model.proofs.Tests.{no_way, and_l, and_r, and, either, any_append, any_filter, any_cong, any_in, any_out, any_none}
use Rattle.model.proofs.Runs.{closes, closes_closed}
use Rattle.model.proofs.Working.{In, streams, Kept, in_at, at_in}
use Rattle.model.proofs.Survivors.{Same, Thinned, thinned_self, thinned_survivors, thinned_one}
use Rattle.model.proofs.Own.{of, any_own, two, any_is, of_survivors, same_verdict}

-- ---- tests of the entries looked at

pub is_kind : (k t : ℕ) (h : Held) → is k t h ≡ true → h.kind ≡ k
is_kind k t h e = eqb-true h.kind k (and_l _ _ e)

pub is_transaction : (k t : ℕ) (h : Held) → is k t h ≡ true → h.transaction ≡ t
is_transaction k t h e = eqb-true h.transaction t (and_r (eqb h.kind k) _ e)

pub to_is : {k t : ℕ} (h : Held) → h.kind ≡ k → h.transaction ≡ t → is k t h ≡ true
to_is {k} {t} h p q = and (eq-eqb h.kind k p) (eq-eqb h.transaction t q)

pub upto_none : (p : Held → Bool) (n : ℕ) (hs : List Held) → ((h : Held) → In h hs → h.epoch ≤ n → p h ≡ true → ⊥) → any p (upto n hs) ≡ false
unfolding upto
upto_none p n hs f = any_filter p (λ h. leb h.epoch n) hs ∙ any_none _ hs (λ h m e. f h m (leb-true h.epoch n (and_l _ _ e)) (and_r (leb h.epoch n) _ e))

pub upto_some : (p : Held → Bool) (n : ℕ) {h : Held} {hs : List Held} → In h hs → h.epoch ≤ n → p h ≡ true → any p (upto n hs) ≡ true
unfolding upto
upto_some p n {h} {hs} m l e = any_filter p (λ h. leb h.epoch n) hs ∙ any_in _ m (and (le-leb h.epoch n l) e)

pub upto_out : (p : Held → Bool) (n : ℕ) (hs : List Held) → any p (upto n hs) ≡ true → (h : Held) × In h hs × (h.epoch ≤ n) × (p h ≡ true)
unfolding upto
upto_out p n hs e =
    let r = any_out (λ h. leb h.epoch n && p h) hs (sym (any_filter p (λ h. leb h.epoch n) hs) ∙ e) in
    (r.0, r.1, leb-true r.0.epoch n (and_l _ _ r.2), and_r (leb r.0.epoch n) _ r.2)

-- ---- the list of pieces, as a test

pub any_map : {X Y : Type 0} (p : Y → Bool) (f : X → Y) (xs : List X) → any p (map f xs) ≡ any (λ x. p (f x)) xs
unfolding any
any_map p f [] = refl
any_map p f (x ∷ xs) = rw (any_map p f xs)

any_and : {X : Type 0} (p : X → Bool) (b : Bool) (xs : List X) → any (λ x. p x && b) xs ≡ (any p xs && b)
unfolding any
any_and p b [] = refl
any_and p b (x ∷ xs) = rw (any_and p b xs) (sym (and-or_distrib_right (p x) (any p xs) b))

-- entries whose kind passes K, of transactions whose verdict passes s
half : (K : Held → Bool) (s : Verdict → Bool) (v : ℕ → Verdict) (t : ℕ) (es : List Held)
    → any (λ u. eqb u t) (map (λ h. h.transaction) (filter (λ h. K h && s (v h.transaction)) es)) ≡ (any (λ h. K h && eqb h.transaction t) es && s (v t))
half K s v t es =
    any_map (λ u. eqb u t) (λ h. h.transaction) (filter (λ h. K h && s (v h.transaction)) es)
    ∙ any_filter (λ h. eqb h.transaction t) (λ h. K h && s (v h.transaction)) es
    ∙ any_cong _ _ es (λ h. go h (eqb h.transaction t) refl)
    ∙ any_and (λ h. K h && eqb h.transaction t) (s (v t)) es
  where
    go : (h : Held) (b : Bool) → eqb h.transaction t ≡ b → (K h && s (v h.transaction) && eqb h.transaction t) ≡ (K h && eqb h.transaction t && s (v t))
    go h true e = rw (e, ap (λ u. s (v u)) (eqb-true h.transaction t e), and-true (K h && s (v t)), and-true (K h))
    go h false e = rw (e, and-false (K h && s (v h.transaction)), and-false (K h))

-- h is a CC or CP
abbrev pub commits : Held → Bool
commits h = eqb h.kind CC || eqb h.kind CP

abbrev pub Commits : Held → Type 0
Commits h = (h.kind ≡ CC) ⊎ (h.kind ≡ CP)

to_commits : (h : Held) → Commits h → commits h ≡ true
to_commits h (inl k) = rw k
to_commits h (inr k) = rw k

pub commits_is : (h : Held) → commits h ≡ true → Commits h
commits_is h e = go (either (eqb h.kind CC) (eqb h.kind CP) e)
  where
    go : (eqb h.kind CC ≡ true) ⊎ (eqb h.kind CP ≡ true) → Commits h
    go (inl p) = inl (eqb-true h.kind CC p)
    go (inr p) = inr (eqb-true h.kind CP p)

abbrev pub ends : ℕ → Held → Bool
ends t h = commits h && eqb h.transaction t

pub pieces_test : (v : ℕ → Verdict) (t : ℕ) (es : List Held)
    → any (λ u. eqb u t) (pieces v es) ≡ (any (ends t) es && installs (v t) || any (is P t) es && flags (v t))
unfolding pieces
pieces_test v t es = rw (any_append, half commits installs v t es, half (λ h. eqb h.kind P) flags v t es)

-- t is listed at fragment i by the close of n over the held entries H
unfoldable lists? : ℕ → (ℕ → List Held) → ℕ → ℕ → Bool
lists? n H i t = any (λ u. eqb u t) (pieces (verdict (committed n H) (upto n (H i))) (upto n (H i)))

lists_own : (n : ℕ) (H L : ℕ → List Held) (t : ℕ) → ((i : ℕ) → of t (H i) ≡ of t (L i)) → (i : ℕ) → lists? n H i t ≡ lists? n L i t
unfolding lists?
lists_own n H L t q i =
    pieces_test (verdict (committed n H) (upto n (H i))) t (upto n (H i))
    ∙ rw (same_verdict n H L t q i, e1 (H i), any_is P t n (H i), q i) (rw (← e1 (L i), ← any_is P t n (L i)))
    ∙ sym (pieces_test (verdict (committed n L) (upto n (L i))) t (upto n (L i)))
  where
    e1 : (hs : List Held) → any (ends t) (upto n hs) ≡ any (ends t) (upto n (of t hs))
    e1 hs = any_own (ends t) t n hs (λ h. two (commits h) (eqb h.transaction t))

-- ---- over the logs, under the rules

-- what the close of n makes of t in stream i
abbrev pub verdict_of : ℕ → (ℕ → List Held) → ℕ → ℕ → Verdict
verdict_of n L i = verdict (committed n L) (upto n (L i))

-- t is installed for its CC or CP in stream i, or it is flagged
pub data Settles (n : ℕ) (L : ℕ → List Held) (i t : ℕ) (v : Verdict) : Type 0 where
  by_end : v ≡ install → (e : Held) → In e (L i) → e.epoch ≤ n → e.transaction ≡ t → Commits e → Settles n L i t v
  by_flag : v ≡ flag → Settles n L i t v

module _ (L : ℕ → List Held) (K : Kept L) {j : ℕ} {g : Held} (m : In g (L j)) (c : g.kind ≡ CC) (n : ℕ) where
  pub no_abort : (i : ℕ) → any (is A g.transaction) (upto n (L i)) ≡ false
  no_abort i = upto_none _ n (L i) (λ h x l e. K.kept x m (is_kind A _ h e) c (is_transaction A _ h e))

  -- before the close of its CC's epoch nothing becomes of it
  before : n < g.epoch → (i : ℕ) → verdict_of n L i g.transaction ≡ stay
  unfolding verdict committed
  before b i = rw (no_abort i, upto_none _ n (L i) no_cc, upto_none _ n (L i) no_cp, upto_none _ n (L i) no_p)
    where
      no_cc : {k : ℕ} (h : Held) → In h (L k) → h.epoch ≤ n → is CC g.transaction h ≡ true → ⊥
      no_cc h x l e = omega (arith, K.one x m (is_kind CC _ h e) c (is_transaction CC _ h e))

      no_cp : (h : Held) → In h (L i) → h.epoch ≤ n → is CP g.transaction h ≡ true → ⊥
      no_cp h x l e =
          let r = K.backed x (is_kind CP _ h e) in
          omega (arith, r.5, K.one r.2 m r.3 c (r.4 ∙ is_transaction CP _ h e))

      no_p : (h : Held) → In h (L i) → h.epoch ≤ n → (unflagged_p g.transaction h && committed n L (coordinator h) g.transaction) ≡ true → ⊥
      no_p h x l e =
          let r = upto_out (is CC g.transaction) n (L (coordinator h)) (and_r (unflagged_p g.transaction h) _ e) in
          no_cc r.0 r.1 r.2 r.3

  -- at that close its pieces are installed, wherever it has CC or P
  at_end : (i : ℕ) → any (ends g.transaction) (upto n (L i)) ≡ true → verdict_of n L i g.transaction ≡ install → lists? n L i g.transaction ≡ true
  unfolding lists?
  at_end i e v = pieces_test _ g.transaction (upto n (L i)) ∙ rw (e, v)

  at_p : (i : ℕ) → any (is P g.transaction) (upto n (L i)) ≡ true → verdict_of n L i g.transaction ≡ flag → lists? n L i g.transaction ≡ true
  unfolding lists?
  at_p i e v = pieces_test _ g.transaction (upto n (L i)) ∙ rw (e, v) (or-true (any (ends g.transaction) (upto n (L i)) && false))

  module _ (q : g.epoch ≡ n) (i : ℕ) where
    pub verdict_cc : (h : Held) → In h (L i) → h.kind ≡ CC → h.transaction ≡ g.transaction → verdict_of n L i g.transaction ≡ install
    unfolding verdict
    verdict_cc h x k t = rw (no_abort i, upto_some (is CC g.transaction) n x (omega (arith, K.one x m k c t)) (to_is h k t))

    now_cc : (h : Held) → In h (L i) → h.kind ≡ CC → h.transaction ≡ g.transaction → lists? n L i g.transaction ≡ true
    now_cc h x k t = at_end i (upto_some _ n x (omega (arith, K.one x m k c t)) (rw k (eq-eqb h.transaction g.transaction t))) (verdict_cc h x k t)

    module _ (h : Held) (x : In h (L i)) (k : h.kind ≡ P) (t : h.transaction ≡ g.transaction) where
      unflagged : unflagged_p g.transaction h ≡ true
      unflagged = rw (to_is h k t, K.fresh x)

      -- with P there: CC or CP installs it, and else it is flagged
      pub verdict_p : Settles n L i g.transaction (verdict_of n L i g.transaction)
      unfolding verdict committed
      verdict_p = go (any (is CC g.transaction) (upto n (L i))) refl (any (is CP g.transaction) (upto n (L i))) refl
        where
          f : (unflagged_p g.transaction h && committed n L (coordinator h) g.transaction) ≡ true
          f = rw (unflagged, K.names x m k c t) (upto_some (is CC g.transaction) n m (omega arith) (to_is g c refl))

          looked_at_law : h.epoch ≤ n
          looked_at_law = omega (arith, K.intime x m k c t)

          go : (a : Bool) → any (is CC g.transaction) (upto n (L i)) ≡ a → (b : Bool) → any (is CP g.transaction) (upto n (L i)) ≡ b
              → Settles n L i g.transaction (verdict_of n L i g.transaction)
          go true ea b eb =
              let r = upto_out (is CC g.transaction) n (L i) ea in
              by_end (rw (no_abort i, ea)) r.0 r.1 r.2 (is_transaction CC _ r.0 r.3) (inl (is_kind CC _ r.0 r.3))
          go false ea true eb =
              let r = upto_out (is CP g.transaction) n (L i) eb in
              by_end (rw (no_abort i, ea, eb, upto_some (unflagged_p g.transaction) n x looked_at_law unflagged)) r.0 r.1 r.2 (is_transaction CP _ r.0 r.3) (inr (is_kind CP _ r.0 r.3))
          go false ea false eb =
              by_flag (rw (no_abort i, ea, eb, upto_some (λ h. unflagged_p g.transaction h && committed n L (coordinator h) g.transaction) n x looked_at_law f))

      now_p : lists? n L i g.transaction ≡ true
      now_p = go verdict_p
        where
          go : Settles n L i g.transaction (verdict_of n L i g.transaction) → lists? n L i g.transaction ≡ true
          go (by_end v e y l u w) = at_end i (upto_some _ n y l (and (to_commits e w) (eq-eqb e.transaction g.transaction u))) v
          go (by_flag v) = at_p i (upto_some _ n x (omega (arith, K.intime x m k c t)) (to_is h k t)) v

-- CC(t) stands in some stream, in an epoch up to n
abbrev pub Decided : (ℕ → List Held) → ℕ → ℕ → Type 0
Decided L n t = (j : ℕ) × (g : Held) × In g (L j) × (g.kind ≡ CC) × (g.transaction ≡ t) × (g.epoch ≤ n)

-- and in epoch n
abbrev pub DecidedIn : (ℕ → List Held) → ℕ → ℕ → Type 0
DecidedIn L n t = (j : ℕ) × (g : Held) × In g (L j) × (g.kind ≡ CC) × (g.transaction ≡ t) × (g.epoch ≡ n)

-- a verdict that flags has found the coordinator's commit
flag_by : (d : ℕ → ℕ → Bool) (es : List Held) (t : ℕ) → flags (verdict d es t) ≡ true → any (λ h. unflagged_p t h && d (coordinator h) t) es ≡ true
unfolding verdict
flag_by d es t = go (any (is A t) es) (any (is CC t) es || any (is CP t) es && any (unflagged_p t) es) (any (is CP t) es && any (flagged_p t) es) (any (λ h. unflagged_p t h && d (coordinator h) t) es)
  where
    go : (a b c e : Bool) → flags (if a then free else if b then install else if c then free else if e then flag else stay) ≡ true → e ≡ true
    go true b c e q = no_way q
    go false true c e q = no_way q
    go false false true e q = no_way q
    go false false false true q = refl
    go false false false false q = q

-- a CC or CP stands on a CC, in its epoch or an earlier one
pub commits_decided : {L : ℕ → List Held} → Kept L → {i : ℕ} {h : Held} → In h (L i) → Commits h → Decided L h.epoch h.transaction
commits_decided K {i} {h} x (inl c) = (i, h, x, c, refl, omega arith)
commits_decided K x (inr c) = K.backed x c

pub commits_same : {h g : Held} → Same h g → Commits h → Commits g
commits_same s (inl k) = inl (sym s.kind ∙ k)
commits_same s (inr k) = inr (sym s.kind ∙ k)

-- ---- the account after m closes

-- the piece (i, t) has been installed by close m
abbrev pub Installed : Account → ℕ → ℕ → ℕ → Type 0
Installed a m i t = (k : ℕ) × (k < m) × (any (λ u. eqb u t) (installed (closes k a) i) ≡ true)

-- what is held stands in the stream, in its order, but for flags
pub thinned_log : (a : Account) (i m : ℕ) → Thinned (streams (closes m a) i) (streams a i)
unfolding closes close settle
thinned_log a i zero = thinned_self (streams a i)
thinned_log a i (suc m) = thinned_survivors _ _ (thinned_log a i m)

pub from_log : (a : Account) (m : ℕ) {i : ℕ} {h : Held} → In h (streams (closes m a) i) → (g : Held) × In g (streams a i) × Same h g
from_log a m {i} x = let r = thinned_one (thinned_log a i m) (in_at x).1 in (r.1, at_in r.2, r.3)

module _ (a : Account) (z : a.closed ≡ 0) (K : Kept (streams a)) where
  module _ {j : ℕ} {g : Held} (x : In g (streams a j)) (c : g.kind ≡ CC) where
    -- before the close of its CC's epoch the account holds all of it, as it was taken
    pub stays : (m : ℕ) → m < g.epoch → (i : ℕ) → of g.transaction (streams (closes m a) i) ≡ of g.transaction (streams a i)
    unfolding closes close settle
    stays zero b i = refl
    stays (suc m) b i =
        let n = suc (closes m a).closed in
        let q = stays m (omega arith) in
        of_survivors n g.transaction _ (same_verdict n (streams (closes m a)) (streams a) g.transaction q i ∙ before (streams a) K x c n (omega (arith, closes_closed m a)) i) (streams (closes m a) i)
        ∙ q i

    -- and that close installs it wherever it has P or CC
    pub together : (m : ℕ) → g.epoch ≡ suc m → (i : ℕ) (h : Held) → In h (streams a i) → h.transaction ≡ g.transaction → (h.kind ≡ P) ⊎ (h.kind ≡ CC)
        → any (λ u. eqb u g.transaction) (installed (closes m a) i) ≡ true
    unfolding installed lists?
    together m e i h y t k = lists_own (suc (closes m a).closed) (streams (closes m a)) (streams a) g.transaction (stays m (omega arith)) i ∙ go k
      where
        q : g.epoch ≡ suc (closes m a).closed
        q = omega (arith, closes_closed m a)

        go : (h.kind ≡ P) ⊎ (h.kind ≡ CC) → lists? (suc (closes m a).closed) (streams a) i g.transaction ≡ true
        go (inl p) = now_p (streams a) K x c _ q i h y p t
        go (inr p) = now_cc (streams a) K x c _ q i h y p t

  pub installed_by : {m i j : ℕ} {g h : Held} → In g (streams a j) → g.kind ≡ CC → g.epoch ≤ m → In h (streams a i) → h.transaction ≡ g.transaction → (h.kind ≡ P) ⊎ (h.kind ≡ CC) → Installed a m i g.transaction
  installed_by {i = i} {g = g} {h = h} y c l x t k =
      let r : g.epoch ≡ suc (pred g.epoch) = omega (arith, K.begun y) in
      (pred g.epoch, omega (arith, r), together y c (pred g.epoch) r i h x t k)

  held_ends : (m t i : ℕ) (h : Held) → In h (streams (closes m a) i) → h.epoch ≤ suc (closes m a).closed → h.transaction ≡ t → Commits h → Decided (streams a) (suc m) t
  held_ends m t i h x l q k =
      let s = from_log a m {i = i} x in
      let r = commits_decided K s.1 (commits_same s.2 k) in
      (r.0, r.1, r.2, r.3, r.4 ∙ sym s.2.transaction ∙ q, omega (arith, r.5, closes_closed m a, s.2.epoch))

  -- what a close installs has been decided by then
  pub only : (m i t : ℕ) → any (λ u. eqb u t) (installed (closes m a) i) ≡ true → Decided (streams a) (suc m) t
  unfolding installed committed
  only m i t e = go (either _ _ (sym (pieces_test v t (upto n (H i))) ∙ e))
    where
      n : ℕ
      n = suc (closes m a).closed

      H : ℕ → List Held
      H = streams (closes m a)

      v : ℕ → Verdict
      v = verdict_of n H i

      go : ((any (ends t) (upto n (H i)) && installs (v t)) ≡ true) ⊎ ((any (is P t) (upto n (H i)) && flags (v t)) ≡ true) → Decided (streams a) (suc m) t
      go (inl p) =
          let r = upto_out (ends t) n (H i) (and_l _ _ p) in
          held_ends m t i r.0 r.1 r.2 (eqb-true r.0.transaction t (and_r (commits r.0) _ r.3)) (commits_is r.0 (and_l _ _ r.3))
      go (inr p) =
          let r = upto_out _ n (H i) (flag_by (committed n H) (upto n (H i)) t (and_r (any (is P t) (upto n (H i))) _ p)) in
          let s = upto_out (is CC t) n (H (coordinator r.0)) (and_r (unflagged_p t r.0) _ r.3) in
          held_ends m t (coordinator r.0) s.0 s.1 s.2 (is_transaction CC t s.0 s.3) (inl (is_kind CC t s.0 s.3))

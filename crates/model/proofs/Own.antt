-- What becomes of a transaction depends on its own entries alone. Assumes nothing.
use Prim.Native.Nat.{ℕ}
use mathlib.Core.Path.{◌≡◌, refl, sym, ap, ◌∙◌}
use mathlib.Core.Bool.{Bool, true, false, not, ◌&&◌, and-true, and_self, and_comm, and_assoc}
use mathlib.Core.List.{List, [], ◌∷◌, ◌++◌}
use lib.Dec.{leb, eqb}
use borrow.Author.Tests.{eqb-true}
use Rattle.std.specs.Prelude.{if◌then◌else◌}
use Rattle.model.specs.Lists.{filter, any}
use Rattle.model.specs.Entry.{P, CC, CP, A}
use Rattle.model.specs.Account.{Held, coordinator}
use Rattle.model.specs.Closing.{upto, is, flagged_p, unflagged_p, Verdict, free, install, flag, stay, verdict, committed, with_flag, left, survivors}
use Rattle.model.proofs.Tests.{filter_append, any_filter, any_cong}

-- the entries of transaction t
unfoldable pub of : ℕ → List Held → List Held
of t hs = filter (λ h. eqb h.transaction t) hs

-- ---- a transaction's own entries

-- a test that only entries of t pass
pub any_own : (p : Held → Bool) (t n : ℕ) (hs : List Held) → ((h : Held) → p h ≡ (p h && eqb h.transaction t)) → any p (upto n hs) ≡ any p (upto n (of t hs))
unfolding upto of
any_own p t n hs q =
    any_filter p (λ h. leb h.epoch n) hs
    ∙ any_cong _ _ hs (λ h. tests (leb h.epoch n) (p h) (eqb h.transaction t) (q h))
    ∙ sym (any_filter p (λ h. leb h.epoch n) (of t hs) ∙ any_filter (λ h. leb h.epoch n && p h) (λ h. eqb h.transaction t) hs)
  where
    tests : (l b e : Bool) → b ≡ (b && e) → (l && b) ≡ (e && (l && b))
    tests l b e q = rw (and_comm e (l && b), and_assoc, ← q)

pub two : (a b : Bool) → (a && b) ≡ (a && b && b)
two a b = rw (and_assoc, and_self)

more : (a c e : Bool) → a ≡ (a && e) → (a && c) ≡ (a && c && e)
more true c e q = rw (← q) (sym (and-true c))
more false c e q = refl

-- the verdict on t depends on what the stream holds of t, and on what is decided of t
pub any_is : (k t n : ℕ) (hs : List Held) → any (is k t) (upto n hs) ≡ any (is k t) (upto n (of t hs))
any_is k t n hs = any_own (is k t) t n hs (λ h. two (eqb h.kind k) (eqb h.transaction t))

verdict_own : (d : ℕ → ℕ → Bool) (n : ℕ) (hs : List Held) (t : ℕ) → verdict d (upto n hs) t ≡ verdict d (upto n (of t hs)) t
unfolding verdict
verdict_own d n hs t =
    rw (
      any_is A t n hs,
      any_is CC t n hs,
      any_is CP t n hs,
      any_own (unflagged_p t) t n hs unflagged,
      any_own (flagged_p t) t n hs (λ h. more (is P t h) h.flagged (eqb h.transaction t) (two (eqb h.kind P) (eqb h.transaction t))),
      any_own (λ h. unflagged_p t h && d (coordinator h) t) t n hs (λ h. more (unflagged_p t h) (d (coordinator h) t) (eqb h.transaction t) (unflagged h)),
    )
  where
    unflagged : (h : Held) → unflagged_p t h ≡ (unflagged_p t h && eqb h.transaction t)
    unflagged h = more (is P t h) (not h.flagged) (eqb h.transaction t) (two (eqb h.kind P) (eqb h.transaction t))

verdict_decided : (d e : ℕ → ℕ → Bool) (es : List Held) (t : ℕ) → ((c : ℕ) → d c t ≡ e c t) → verdict d es t ≡ verdict e es t
unfolding verdict
verdict_decided d e es t q = simp q

-- two families of streams that hold the same of t
pub same_verdict : (n : ℕ) (H L : ℕ → List Held) (t : ℕ) → ((i : ℕ) → of t (H i) ≡ of t (L i)) → (i : ℕ)
    → verdict (committed n H) (upto n (H i)) t ≡ verdict (committed n L) (upto n (L i)) t
unfolding committed
same_verdict n H L t q i =
    verdict_decided (committed n H) (committed n L) (upto n (H i)) t (λ c. any_is CC t n (H c) ∙ rw (q c) (sym (any_is CC t n (L c))))
    ∙ verdict_own _ n (H i) t ∙ rw (q i) (sym (verdict_own _ n (L i) t))

-- ---- a transaction that stays keeps its entries

left_other : (t : ℕ) (v : Verdict) (h : Held) → eqb h.transaction t ≡ false → of t (left v h) ≡ []
unfolding of filter left
left_other t free h e = refl
left_other t install h e = refl
left_other t flag h e = go (eqb h.kind P)
  where
    go : (b : Bool) → of t (if b then with_flag h ∷ [] else []) ≡ []
    go true = rw e
    go false = refl
left_other t stay h e = rw e

pub of_survivors : (n t : ℕ) (v : ℕ → Verdict) → v t ≡ stay → (hs : List Held) → of t (survivors n v hs) ≡ of t hs
unfolding of filter survivors left
of_survivors n t v s [] = refl
of_survivors n t v s (h ∷ hs) = filter_append (λ g. eqb g.transaction t) (if leb h.epoch n then left (v h.transaction) h else h ∷ []) (survivors n v hs) ∙ rw (of_survivors n t v s hs) (go (leb h.epoch n) (eqb h.transaction t) refl)
  where
    go : (l b : Bool) → eqb h.transaction t ≡ b → of t (if l then left (v h.transaction) h else h ∷ []) ++ of t hs ≡ (if b then h ∷ of t hs else of t hs)
    go true true e = rw (ap v (eqb-true h.transaction t e) ∙ s, e)
    go true false e = rw (left_other t (v h.transaction) h e)
    go false true e = rw e
    go false false e = rw e

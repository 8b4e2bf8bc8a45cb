-- What the verdicts leave is, stream by stream, the model's survivors, and it stays sorted. Assumes nothing.
use Prim.Native.Nat.{ℕ, zero, suc, ◌≤◌, ◌<◌}
use mathlib.Core.Path.{◌≡◌, refl, sym, ap, ◌∙◌}
use mathlib.Core.Bool.{Bool, true, false}
use mathlib.Core.List.{List, [], ◌∷◌, ◌++◌, append-nil, append_assoc}
use native.Mathlib.Omega.{arith}
use borrow.Author.Tests.{eq-eqb, ne_eqb, eqb-true, eqb-false}
use lib.Dec.{leb, eqb}
use lib.ListN.{get_or}
use Rattle.std.specs.Prelude.{Option, Some, None, if◌then◌else◌}
use Rattle.model.specs.Entry.{P}
use Rattle.model.specs.Account.{Held}
use Rattle.model.specs.Closing.{Verdict as ModelVerdict, free, install, flag, stay, verdict, committed, upto, with_flag, left, survivors}
use Rattle.model.specs.Image.{Item}
use Rattle.model.specs.Decoding.{item_of, parse, mine}
use Rattle.model.proofs.Buckets.{Rising}
use Rattle.model.proofs.Forms.{mine_append}
use Rattle.model.proofs.ByStream.{Sorted}
use Rattle.model.specs.Section.{item_at, items}
use Rattle.lookback.proofs.Places.{parse_more}
use Rattle.places.proofs.Ends.{last_stream}
use Rattle.verdicts.specs.Orderly.{Orderly}
use Rattle.verdicts.specs.Verdicts.{held_in, verdict_at, verdict_of, answer_at, Verdicts}
use Rattle.verdicts.proofs.ByLast.{later}
use Rattle.verdicts.specs.declared.Verdict.{Verdict}
use Rattle.verdicts.specs.declared.Verdict.TheVariants.{Free, Install, Flag, Stay}
use Rattle.survivors.specs.Left.{flagged_item, left_of, left_upto}

survivors_more : (n : ℕ) (v : ℕ → ModelVerdict) (hs : List Held) (h : Held) → survivors n v (hs ++ h ∷ []) ≡ survivors n v hs ++ (if leb h.epoch n then left (v h.transaction) h else h ∷ [])
unfolding survivors
survivors_more n v [] h = append-nil _
survivors_more n v (x ∷ hs) h = rw (survivors_more n v hs h) (sym (append_assoc (if leb x.epoch n then left (v x.transaction) x else x ∷ []) (survivors n v hs) _))

-- ---- one place

mine_left : (s : ℕ) (b : Bool) (v : ModelVerdict) (x : Item) → x.stream ≡ s → mine s (left_of (if b then Some (verdict_of v) else None) x) ≡ (if b then left v x.entry else x.entry ∷ [])
unfolding mine left_of left
mine_left s true free x e = refl
mine_left s true install x e = refl
mine_left s true stay x e = rw (eq-eqb x.stream s e)
mine_left s false v x e = rw (eq-eqb x.stream s e)
mine_left s true flag x e = go (eqb x.entry.kind P)
  where
    go : (p : Bool) → mine s (if p then flagged_item x ∷ [] else []) ≡ (if p then with_flag x.entry ∷ [] else [])
    go true = rw (eq-eqb x.stream s e)
    go false = refl

-- nothing, or one item of the same stream
data OneOf (s : ℕ) : List Item → Type 0 where
  gone : OneOf s []
  kept : {x : Item} → x.stream ≡ s → OneOf s (x ∷ [])

one_of : (v : Option Verdict) (x : Item) → OneOf x.stream (left_of v x)
unfolding left_of
one_of (Some Free) x = gone
one_of (Some Install) x = gone
one_of (Some Flag) x = go (eqb x.entry.kind P)
  where
    go : (b : Bool) → OneOf x.stream (if b then flagged_item x ∷ [] else [])
    go true = kept refl
    go false = gone
one_of (Some Stay) x = kept refl
one_of None x = kept refl

mine_other : (s t : ℕ) {xs : List Item} → OneOf t xs → (t ≡ s → ⊥) → mine s xs ≡ []
unfolding mine
mine_other s t gone n = refl
mine_other s t (kept {x} e) n = rw (ne_eqb x.stream s (λ z. n (sym e ∙ z)))

mine_more : (s m : ℕ) (h : List ℕ) → mine s (items (suc m) h) ≡ mine s (items m h) ++ (if eqb (item_at h m).stream s then (item_at h m).entry ∷ [] else [])
unfolding mine
mine_more s m h = ap (mine s) (parse_more 20 item_of m h) ∙ mine_append s (items m h) (item_at h m ∷ [])

-- ---- all of them

module _ (verdicts : List (Option Verdict)) (h : List ℕ) (n e : ℕ) (w : Verdicts verdicts h n e) where
  verdict_in_law : (s m : ℕ) → (item_at h m).stream ≡ s → verdict_at h n e m ≡ verdict (committed e (held_in h n)) (upto e (held_in h n s)) (item_at h m).entry.transaction
  unfolding verdict_at
  verdict_in_law s m z = ap (λ i. verdict (committed e (held_in h n)) (upto e (held_in h n i)) (item_at h m).entry.transaction) z

  pub left_mine : (s m : ℕ) → m ≤ n → mine s (left_upto verdicts h m) ≡ survivors e (verdict (committed e (held_in h n)) (upto e (held_in h n s))) (mine s (items m h))
  unfolding left_upto parse mine survivors Verdicts answer_at
  left_mine s zero l = refl
  left_mine s (suc m) l =
      mine_append s (left_upto verdicts h m) (left_of (get_or verdicts m None) x) ∙ ap (λ y. y ++ mine s (left_of (get_or verdicts m None) x)) (left_mine s m (omega arith))
      ∙ ap (λ y. survivors e v hs ++ mine s (left_of y x)) (w m (omega arith)) ∙ go (eqb x.stream s) refl ∙ ap (survivors e v) (sym (mine_more s m h))
    where
      x : Item
      x = item_at h m

      v : ℕ → ModelVerdict
      v = verdict (committed e (held_in h n)) (upto e (held_in h n s))

      hs : List Held
      hs = mine s (items m h)

      go : (b : Bool) → eqb x.stream s ≡ b → survivors e v hs ++ mine s (left_of (answer_at h n e m) x) ≡ survivors e v (hs ++ (if b then x.entry ∷ [] else []))
      go true q =
          let z = eqb-true x.stream s q in
          rw (survivors_more e v hs x.entry, verdict_in_law s m z) (ap (λ ys. survivors e v hs ++ ys) (mine_left s (leb x.entry.epoch e) (v x.entry.transaction) x z))
      go false q = rw (mine_other s x.stream (one_of (answer_at h n e m) x) (eqb-false x.stream s q), append-nil hs) (append-nil (survivors e v hs))

-- ---- sorted by stream

module _ (f : ℕ) where
  rising_more : (m : ℕ) (xs : List Item) (x : Item) → x.stream < f → last_stream m xs ≤ x.stream → Rising (λ y. y.stream) m f xs → Rising (λ y. y.stream) m f (xs ++ x ∷ [])
  unfolding Rising last_stream
  rising_more m [] x h l r = (l, h, tt)
  rising_more m (y ∷ xs) x h l r = (r.0, r.1, rising_more y.stream xs x h l r.2)

last_more : (m : ℕ) (xs : List Item) (x : Item) → last_stream m (xs ++ x ∷ []) ≡ x.stream
unfolding last_stream
last_more m [] x = refl
last_more m (y ∷ xs) x = last_more y.stream xs x

pub left_sorted : (verdicts : List (Option Verdict)) (h : List ℕ) (f n : ℕ) → Orderly h n → ((i : ℕ) → i < n → (item_at h i).stream < f) → Sorted f (left_upto verdicts h n)
unfolding left_upto Rising last_stream
left_sorted verdicts h f n o below = (up n (omega arith)).0
  where
    Up : ℕ → List Item → Type 0
    Up m xs = Sorted f xs × ((b : ℕ) → ((j : ℕ) → j < m → (item_at h j).stream ≤ b) → last_stream 0 xs ≤ b)

    more : (m : ℕ) → m < n → (xs : List Item) {ys : List Item} → Up m xs → OneOf (item_at h m).stream ys → Up (suc m) (xs ++ ys)
    more m l xs u gone = rw (append-nil xs) (u.0, λ b q. u.1 b (λ j k. q j (omega arith)))
    more m l xs u (kept {x} e) =
        (rising_more f 0 xs x (rw e (below m l)) (rw e (u.1 (item_at h m).stream (λ j k. (later h n o j m (omega arith) l).0))) u.0, λ b q. rw (last_more 0 xs x, e) (q m (omega arith)))

    up : (m : ℕ) → m ≤ n → Up m (left_upto verdicts h m)
    up zero l = (tt, λ b q. omega arith)
    up (suc m) l = more m l (left_upto verdicts h m) (up m (omega arith)) (one_of (get_or verdicts m None) (item_at h m))

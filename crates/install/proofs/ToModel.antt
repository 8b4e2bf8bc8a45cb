-- The pieces that the verdicts pick are the model's pieces, and installing them leaves the model's records. Assumes nothing.
use Prim.Native.Nat.{ℕ, zero, suc, ◌+◌, ◌≤◌, ◌<◌}
use mathlib.Core.Path.{◌≡◌, refl, sym, ap, ◌∙◌}
use mathlib.Core.Logic.{⊎_elim}
use mathlib.Core.Bool.{Bool, true, false, ◌&&◌, ◌||◌, and-true, and-false}
use mathlib.Core.List.{List, [], ◌∷◌, ◌++◌, map, map-append, append-nil}
use native.Mathlib.Omega.{arith}
use native.Mathlib.Decide.{ℕ_discrete}
use borrow.Author.Tests.{eqb-true, le-leb, lt-leb, leb-true, leb-false}
use lib.Dec.{leb, eqb}
use lib.ListN.{length, get_or, length-append}
use Rattle.std.specs.Prelude.{Option, Some, None, if◌then◌else◌}
use Rattle.model.specs.Lists.{filter, sum_below}
use Rattle.model.specs.Entry.{DELETE, P, CC, CP}
use Rattle.model.specs.Account.{Held, Record}
use Rattle.model.specs.Closing.{upto, Verdict as ModelVerdict, free, install, flag, stay, verdict, committed, installs, flags, pieces, writes_to, after_writes, apply}
use Rattle.model.specs.Stages.{stage_after, takes}
use Rattle.model.specs.declared.Stage.TheVariants.{Prepared, Ended}
use Rattle.model.specs.Decoding.{parse, mine}
use Rattle.model.proofs.Tests.{no_way, and_l, and_r, either, filter_append}
use Rattle.model.proofs.Sums.{sum_most}
use Rattle.model.specs.Section.{item_at}
use Rattle.lookback.specs.Places.{stage_at}
use Rattle.lookback.specs.Last.{last_with, is_of, last_before}
use Rattle.verdicts.specs.Orderly.{Orderly}
use Rattle.verdicts.specs.Verdicts.{held_in, verdict_at, verdict_of, answer_at, Verdicts}
use Rattle.verdicts.proofs.ByLast.{own, later, es, es_more, takes_prepared, takes_ended}
use Rattle.install.specs.Writes.{write_of, writes_before}
use Rattle.install.specs.Order.{own_of}
use Rattle.verdicts.specs.declared.Verdict.{Verdict}
use Rattle.verdicts.specs.declared.Verdict.TheVariants.{Free, Install, Flag, Stay}
use Rattle.install.specs.declared.Sort.{Sort}
use Rattle.install.specs.declared.Sort.TheVariants.{Committed, Flagged}
use Rattle.install.specs.Pieces.{picks, is_piece, piece_at, pieces_till, pieces_of, after_pieces, count_of}
use Rattle.install.proofs.Ordered.{own_self, same_own, after_more, held_more, writes_till, writes_own, writes_other}
use Rattle.install.proofs.Installing.{after_append}

-- ---- a piece's writes: none of its transaction comes later, and all before it are looked at

module _ (h : List ℕ) (n : ℕ) (o : Orderly h n) (e i : ℕ) (l : i < n) (looked : (item_at h i).entry.epoch ≤ e) (ends : P ≤ (item_at h i).entry.kind) where
  abbrev s : ℕ
  s = (item_at h i).stream

  abbrev t : ℕ
  t = (item_at h i).entry.transaction

  -- the last place of the transaction, from place i on, is no write
  record Past (m : ℕ) : Type 0 where
    place : ℕ
    is : last_with (own_of h i) m ≡ suc place
    kind : P ≤ (item_at h place).entry.kind

  stage_past : (k : ℕ) → P ≤ k → (j : ℕ) → takes j (stage_after k) ≡ true → P ≤ j
  unfolding stage_after
  stage_past k u j w = go (eqb k P) (rw (lt-leb k DELETE (omega arith)) at w)
    where
      go : (b : Bool) → takes j (if b then Prepared else Ended) ≡ true → P ≤ j
      go true w = omega (arith, leb-false j DELETE (takes_prepared j w).no_write)
      go false w = takes_ended j w

  past : (m : ℕ) → i < m → m ≤ n → Past m
  unfolding last_with stage_at
  past zero u v = absurd (omega arith)
  past (suc m) u v = go (own_of h i m) refl (ℕ_discrete i m) (λ w. past m w (omega arith))
    where
      go : (b : Bool) → own_of h i m ≡ b → Dec (i ≡ m) → (i < m → Past m) → Past (suc m)
      go true w (yes z) ih = record { place = m; is = rw w; kind = rw z at ends }
      go true w (no z) ih =
          let p = ih (omega arith) in
          let before : last_before h m ≡ suc p.place = ap (λ f. last_with f m) (same_own h i m w) ∙ p.is in
          record { place = m; is = rw w; kind = stage_past _ p.kind _ (rw before at (o.taken m (omega arith))) }
      go false w (yes z) ih = no_way (sym w ∙ ap (own_of h i) (sym z) ∙ own_self h i)
      go false w (no z) ih = let p = ih (omega arith) in record { place = p.place; is = rw w p.is; kind = p.kind }

  past_own : (m : ℕ) → i ≤ m → m < n → own_of h i m ≡ true → P ≤ (item_at h m).entry.kind
  unfolding last_with
  past_own m u v w =
      let p = past (suc m) (omega arith) v in
      let z : m ≡ p.place = omega (arith, rw w at p.is) in
      rw z p.kind

  module _ (k : ℕ) (y : Record) where
    -- the writes of the transaction among the entries looked at before place m
    abbrev looked_till : ℕ → Record
    looked_till m = after_writes (λ u. eqb u t) k (es h n o e s t m) y

    looked_own : (m : ℕ) → own_of h i m ≡ true → leb (item_at h m).entry.epoch e ≡ true → looked_till (suc m) ≡ write_of (item_at h m) k (looked_till m)
    unfolding is_of
    looked_own m w c =
        let a = and_l (eqb (item_at h m).stream s) _ w in
        let b = and_r (eqb (item_at h m).stream s) _ w in
        ap (λ hs. after_writes (λ u. eqb u t) k hs y) (es_more h n o e s t m)
        ∙ rw (a, c) (after_more (λ u. eqb u t) k (es h n o e s t m) (item_at h m).entry y ∙ rw (b, and-true (writes_to k (item_at h m).entry)))

    looked_late : (m : ℕ) → leb (item_at h m).entry.epoch e ≡ false → looked_till (suc m) ≡ looked_till m
    looked_late m c = ap (λ hs. after_writes (λ u. eqb u t) k hs y) (es_more h n o e s t m) ∙ rw (c, and-false (eqb (item_at h m).stream s))

    looked_other : (m : ℕ) → own_of h i m ≡ false → looked_till (suc m) ≡ looked_till m
    unfolding is_of
    looked_other m w = ap (λ hs. after_writes (λ u. eqb u t) k hs y) (es_more h n o e s t m) ∙ go (eqb (item_at h m).stream s) (leb (item_at h m).entry.epoch e) w
      where
        x : Held
        x = (item_at h m).entry

        go : (a c : Bool) → (a && eqb x.transaction t) ≡ false → after_writes (λ u. eqb u t) k (if a && c then es h n o e s t m ++ x ∷ [] else es h n o e s t m) y ≡ looked_till m
        go true true z = after_more (λ u. eqb u t) k (es h n o e s t m) x y ∙ rw (z, and-false (writes_to k x))
        go true false z = refl
        go false c z = refl

    before : (m : ℕ) → m ≤ i → looked_till m ≡ writes_till h s t k y m
    unfolding upto filter mine parse
    before zero u = refl
    before (suc m) u = go (own_of h i m) refl (before m (omega arith))
      where
        go : (b : Bool) → own_of h i m ≡ b → looked_till m ≡ writes_till h s t k y m → looked_till (suc m) ≡ writes_till h s t k y (suc m)
        go true w ih =
            let c : (item_at h m).entry.epoch ≤ e = omega (arith, (later h n o m i (omega arith) l).1 (own h s t m w).0) in
            looked_own m w (le-leb _ _ c) ∙ ap (write_of (item_at h m) k) ih ∙ sym (writes_own h s t k y m w)
        go false w ih = looked_other m w ∙ ih ∙ sym (writes_other h s t k y m w)

    after : (m : ℕ) → i ≤ m → m ≤ n → looked_till m ≡ looked_till i
    after zero u v = let z : i ≡ 0 = omega arith in rw z
    after (suc m) u v = go (ℕ_discrete i (suc m)) (own_of h i m) refl (leb (item_at h m).entry.epoch e) refl (λ w. after m w (omega arith))
      where
        go : Dec (i ≡ suc m) → (b : Bool) → own_of h i m ≡ b → (c : Bool) → leb (item_at h m).entry.epoch e ≡ c → (i ≤ m → looked_till m ≡ looked_till i) → looked_till (suc m) ≡ looked_till i
        go (yes z) b w c q ih = ap looked_till (sym z)
        go (no z) true w true q ih = looked_own m w q ∙ rw (lt-leb (item_at h m).entry.kind DELETE (omega (arith, past_own m (omega arith) (omega arith) w))) (ih (omega arith))
        go (no z) true w false q ih = looked_late m q ∙ ih (omega arith)
        go (no z) false w c q ih = looked_other m w ∙ ih (omega arith)

    -- the writes before a piece are all its writes
    piece_writes : writes_before h i k y ≡ after_writes (λ u. eqb u t) k (upto e (held_in h n s)) y
    piece_writes = sym (before i (omega arith)) ∙ sym (after n (omega arith) (omega arith))

-- ---- the pieces of stream s

apply_append : (ts us : List ℕ) (k : ℕ) (hs : List Held) (y : Record) → apply (ts ++ us) k hs y ≡ apply us k hs (apply ts k hs y)
unfolding apply
apply_append [] us k hs y = refl
apply_append (x ∷ ts) us k hs y = apply_append ts us k hs _

module _ (verdicts : List (Option Verdict)) (h : List ℕ) (n e : ℕ) (o : Orderly h n) (w : Verdicts verdicts h n e) (s : ℕ) where
  abbrev v : ℕ → ModelVerdict
  v = verdict (committed e (held_in h n)) (upto e (held_in h n s))

  abbrev wanted : Sort → ModelVerdict → ℕ → Bool
  wanted Committed u kind = (eqb kind CC || eqb kind CP) && installs u
  wanted Flagged u kind = eqb kind P && flags u

  abbrev picked : Sort → Held → Bool
  picked sort x = wanted sort (v x.transaction) x.kind

  abbrev transactions : List ℕ → List ℕ
  transactions is = map (λ i. (item_at h i).entry.transaction) is

  abbrev till : ℕ → List Held
  till m = upto e (held_in h m s)

  picks_is : (sort : Sort) (u : ModelVerdict) (kind : ℕ) → picks sort (Some (verdict_of u)) kind ≡ wanted sort u kind
  picks_is Committed free kind = sym (and-false (eqb kind CC || eqb kind CP))
  picks_is Committed install kind = sym (and-true (eqb kind CC || eqb kind CP))
  picks_is Committed flag kind = sym (and-false (eqb kind CC || eqb kind CP))
  picks_is Committed stay kind = sym (and-false (eqb kind CC || eqb kind CP))
  picks_is Flagged free kind = sym (and-false (eqb kind P))
  picks_is Flagged install kind = sym (and-false (eqb kind P))
  picks_is Flagged flag kind = sym (and-true (eqb kind P))
  picks_is Flagged stay kind = sym (and-false (eqb kind P))

  picks_none : (sort : Sort) (kind : ℕ) → picks sort None kind ≡ false
  picks_none Committed kind = refl
  picks_none Flagged kind = refl

  piece_is : (sort : Sort) (m : ℕ) → m < n → is_piece verdicts h s sort m ≡ ((eqb (item_at h m).stream s && leb (item_at h m).entry.epoch e) && picked sort (item_at h m).entry)
  unfolding is_piece Verdicts answer_at verdict_at
  piece_is sort m l = rw (w m l) (go (eqb (item_at h m).stream s) refl (leb (item_at h m).entry.epoch e))
    where
      x : Held
      x = (item_at h m).entry

      u : ModelVerdict
      u = verdict (committed e (held_in h n)) (upto e (held_in h n (item_at h m).stream)) x.transaction

      same : eqb (item_at h m).stream s ≡ true → u ≡ v x.transaction
      same q = ap (λ i. verdict (committed e (held_in h n)) (upto e (held_in h n i)) x.transaction) (eqb-true (item_at h m).stream s q)

      go : (a : Bool) → eqb (item_at h m).stream s ≡ a → (b : Bool) → (a && picks sort (if b then Some (verdict_of u) else None) x.kind) ≡ ((a && b) && picked sort x)
      go false q b = refl
      go true q true = rw (same q) (picks_is sort (v x.transaction) x.kind)
      go true q false = picks_none sort x.kind

  picked_more : (sort : Sort) (m : ℕ) → map (λ x. x.transaction) (filter (picked sort) (till (suc m)))
      ≡ map (λ x. x.transaction) (filter (picked sort) (till m)) ++ (if (eqb (item_at h m).stream s && leb (item_at h m).entry.epoch e) && picked sort (item_at h m).entry then (item_at h m).entry.transaction ∷ [] else [])
  unfolding filter
  picked_more sort m = ap (λ hs. map (λ x. x.transaction) (filter (picked sort) hs)) (es_more h n o e s 0 m) ∙ go (eqb (item_at h m).stream s && leb (item_at h m).entry.epoch e)
    where
      x : Held
      x = (item_at h m).entry

      some : (b : Bool) → map (λ g. g.transaction) (if b then x ∷ [] else []) ≡ (if b then x.transaction ∷ [] else [])
      some true = refl
      some false = refl

      go : (c : Bool) → map (λ g. g.transaction) (filter (picked sort) (if c then till m ++ x ∷ [] else till m)) ≡ map (λ g. g.transaction) (filter (picked sort) (till m)) ++ (if c && picked sort x then x.transaction ∷ [] else [])
      go true =
          ap (map (λ g. g.transaction)) (filter_append (picked sort) (till m) (x ∷ [])) ∙ map-append (λ g. g.transaction) (filter (picked sort) (till m)) _
          ∙ ap (λ ys. map (λ g. g.transaction) (filter (picked sort) (till m)) ++ ys) (some (picked sort x))
      go false = sym (append-nil _)

  till_is : (sort : Sort) (m : ℕ) → m ≤ n → transactions (pieces_till verdicts h s sort m) ≡ map (λ x. x.transaction) (filter (picked sort) (till m))
  unfolding pieces_till upto filter mine parse
  till_is sort zero l = refl
  till_is sort (suc m) l =
      map-append (λ i. (item_at h i).entry.transaction) (pieces_till verdicts h s sort m) (piece_at verdicts h s sort m)
      ∙ ap (λ ys. ys ++ transactions (piece_at verdicts h s sort m)) (till_is sort m (omega arith))
      ∙ ap (λ b. map (λ x. x.transaction) (filter (picked sort) (till m)) ++ transactions (if b then m ∷ [] else [])) (piece_is sort m l)
      ∙ ap (λ ys. map (λ x. x.transaction) (filter (picked sort) (till m)) ++ ys) (some ((eqb (item_at h m).stream s && leb (item_at h m).entry.epoch e) && picked sort (item_at h m).entry))
      ∙ sym (picked_more sort m)
    where
      some : (b : Bool) → transactions (if b then m ∷ [] else []) ≡ (if b then (item_at h m).entry.transaction ∷ [] else [])
      some true = refl
      some false = refl

  -- a piece's place is looked at, of this stream, and no write
  piece_kind : (sort : Sort) (x : Held) → picked sort x ≡ true → P ≤ x.kind
  piece_kind Flagged x q = let z = eqb-true x.kind P (and_l _ _ q) in omega arith
  piece_kind Committed x q =
      ⊎_elim (λ a. let z = eqb-true x.kind CC a in omega arith) (λ a. let z = eqb-true x.kind CP a in omega arith) (either (eqb x.kind CC) _ (and_l (eqb x.kind CC || eqb x.kind CP) _ q))

  after_till : (sort : Sort) (m : ℕ) → m ≤ n → (k : ℕ) (y : Record) → after_pieces h (pieces_till verdicts h s sort m) k y ≡ apply (transactions (pieces_till verdicts h s sort m)) k (till n) y
  unfolding pieces_till apply after_pieces
  after_till sort zero l k y = refl
  after_till sort (suc m) l k y =
      after_append h s (pieces_till verdicts h s sort m) (piece_at verdicts h s sort m) k y
      ∙ ap (after_pieces h (piece_at verdicts h s sort m) k) (after_till sort m (omega arith) k y)
      ∙ go (is_piece verdicts h s sort m) refl (apply (transactions (pieces_till verdicts h s sort m)) k (till n) y)
      ∙ sym (apply_append (transactions (pieces_till verdicts h s sort m)) (transactions (piece_at verdicts h s sort m)) k (till n) y)
      ∙ ap (λ ts. apply ts k (till n) y) (sym (map-append (λ i. (item_at h i).entry.transaction) (pieces_till verdicts h s sort m) (piece_at verdicts h s sort m)))
    where
      go : (b : Bool) → is_piece verdicts h s sort m ≡ b → (z : Record) → after_pieces h (if b then m ∷ [] else []) k z ≡ apply (transactions (if b then m ∷ [] else [])) k (till n) z
      go false q z = refl
      go true q z =
          let c = sym (piece_is sort m l) ∙ q in
          let a = and_l (eqb (item_at h m).stream s && leb (item_at h m).entry.epoch e) _ c in
          let at : (item_at h m).stream ≡ s = eqb-true _ _ (and_l _ _ a) in
          piece_writes h n o e m l (leb-true _ _ (and_r (eqb (item_at h m).stream s) _ a)) (piece_kind sort (item_at h m).entry (and_r (eqb (item_at h m).stream s && leb (item_at h m).entry.epoch e) _ c)) k z
          ∙ ap (λ i. after_writes (λ u. eqb u (item_at h m).entry.transaction) k (upto e (held_in h n i)) z) at

  -- THE LAWS of a stream
  pub pieces_are : map (λ i. (item_at h i).entry.transaction) (pieces_of verdicts h n s) ≡ pieces (verdict (committed e (held_in h n)) (upto e (held_in h n s))) (upto e (held_in h n s))
  unfolding pieces
  pieces_are =
      map-append (λ i. (item_at h i).entry.transaction) (pieces_till verdicts h s Committed n) (pieces_till verdicts h s Flagged n)
      ∙ rw (till_is Committed n (omega arith), till_is Flagged n (omega arith))

  pub after_are : (k : ℕ) (y : Record) → after_pieces h (pieces_of verdicts h n s) k y ≡ apply (pieces (verdict (committed e (held_in h n)) (upto e (held_in h n s))) (upto e (held_in h n s))) k (upto e (held_in h n s)) y
  after_are k y =
      after_append h s (pieces_till verdicts h s Committed n) (pieces_till verdicts h s Flagged n) k y
      ∙ after_till Flagged n (omega arith) k _ ∙ ap (apply (transactions (pieces_till verdicts h s Flagged n)) k (till n)) (after_till Committed n (omega arith) k y)
      ∙ sym (apply_append (transactions (pieces_till verdicts h s Committed n)) (transactions (pieces_till verdicts h s Flagged n)) k (till n) y)
      ∙ ap (λ ts. apply ts k (till n) y) (sym (map-append (λ i. (item_at h i).entry.transaction) (pieces_till verdicts h s Committed n) (pieces_till verdicts h s Flagged n)) ∙ pieces_are)

-- ---- there are no more pieces than places

module _ (verdicts : List (Option Verdict)) (h : List ℕ) (s : ℕ) where
  one_sort : (m : ℕ) → length (piece_at verdicts h s Committed m) + length (piece_at verdicts h s Flagged m) ≤ length (if eqb (item_at h m).stream s then (item_at h m).entry ∷ [] else [])
  unfolding is_piece
  one_sort m = go (eqb (item_at h m).stream s) (get_or verdicts m None)
    where
      k : ℕ
      k = (item_at h m).entry.kind

      some : (b : Bool) → length (if b then m ∷ [] else []) ≤ 1
      some true = omega arith
      some false = omega arith

      go : (a : Bool) (v : Option Verdict) → length (if a && picks Committed v k then m ∷ [] else []) + length (if a && picks Flagged v k then m ∷ [] else []) ≤ length (if a then (item_at h m).entry ∷ [] else [])
      go false v = omega arith
      go true None = omega arith
      go true (Some Free) = omega arith
      go true (Some Install) = omega (arith, some (eqb k CC || eqb k CP))
      go true (Some Flag) = omega (arith, some (eqb k P))
      go true (Some Stay) = omega arith

  few_till : (m : ℕ) → length (pieces_till verdicts h s Committed m) + length (pieces_till verdicts h s Flagged m) ≤ length (held_in h m s)
  unfolding pieces_till
  few_till zero = omega arith
  few_till (suc m) =
      omega (
        arith,
        few_till m,
        one_sort m,
        length-append (pieces_till verdicts h s Committed m) (piece_at verdicts h s Committed m),
        length-append (pieces_till verdicts h s Flagged m) (piece_at verdicts h s Flagged m),
        ap length (held_more h m s),
        length-append (held_in h m s) (if eqb (item_at h m).stream s then (item_at h m).entry ∷ [] else []),
      )

pub few_pieces : (verdicts : List (Option Verdict)) (h : List ℕ) (n f : ℕ) → count_of verdicts h n f ≤ sum_below (λ s. length (held_in h n s)) f
few_pieces verdicts h n f =
    sum_most (λ s. length (held_in h n s)) (λ s. length (pieces_of verdicts h n s)) f
    (λ s l. omega (arith, few_till verdicts h s n, length-append (pieces_till verdicts h s Committed n) (pieces_till verdicts h s Flagged n)))

-- The verdict on a transaction, which asks for any entry of a kind, is decided by its last entry looked at. Assumes nothing.
use Prim.Native.Nat.{ℕ, zero, suc, ◌≤◌, ◌<◌}
use mathlib.Core.Path.{◌≡◌, refl, sym, ap, ◌∙◌, fun_ext}
use mathlib.Core.Logic.{⊎_elim}
use mathlib.Core.Bool.{Bool, true, false, not, ◌&&◌, ◌||◌, and-true, and-false, or-false}
use mathlib.Core.List.{List, [], ◌∷◌, ◌++◌, append-nil}
use native.Mathlib.Omega.{arith}
use native.Mathlib.Decide.{ℕ_discrete}
use borrow.Author.Tests.{ne_eqb, eqb-true, leb-true, leb-false, le-leb, lt-leb, ltb-true}
use lib.Dec.{leb, ltb, eqb}
use Rattle.std.specs.Prelude.{if◌then◌else◌}
use Rattle.model.specs.Lists.{filter, any}
use Rattle.model.specs.Entry.{DELETE, P, CC, CP, A}
use Rattle.model.specs.Account.{Held, coordinator}
use Rattle.model.specs.Closing.{upto, is, flagged_p, unflagged_p, Verdict, free, install, flag, stay, verdict, committed}
use Rattle.model.specs.Image.{Item}
use Rattle.model.specs.Decoding.{item_of, parse, mine}
use Rattle.model.specs.Stages.{stage_after, is_unheard, is_writing, takes}
use Rattle.model.specs.declared.Stage.{Stage}
use Rattle.model.specs.declared.Stage.TheVariants.{Unheard, Writing, Prepared, Ended}
use Rattle.model.proofs.Tests.{no_way, and_l, and_r, either, any_append, filter_append}
use Rattle.model.proofs.Forms.{mine_append}
use Rattle.held.specs.Place.{may_follow}
use Rattle.model.specs.Section.{item_at, items}
use Rattle.lookback.specs.Places.{stage_at}
use Rattle.lookback.specs.Last.{last_with, is_of, last_before}
use Rattle.lookback.proofs.Places.{parse_more}
use Rattle.lookback.proofs.Chains.{last_passes, last_jump, same_last}
use Rattle.verdicts.specs.Orderly.{Orderly}
use Rattle.verdicts.specs.Verdicts.{held_in, verdict_at, looked_at, decider_at, commits_at, decides, flagged_at, to_flag, decided_by}

-- ---- what a verdict asks, entry by entry

module _ (d : ℕ → ℕ → Bool) (t : ℕ) where
  record Anys (es : List Held) (a b e u g q : Bool) : Type 0 where
    aborts : any (is A t) es ≡ a
    commits : any (is CC t) es ≡ b
    ends : any (is CP t) es ≡ e
    unflagged : any (unflagged_p t) es ≡ u
    flagged : any (flagged_p t) es ≡ g
    decided : any (λ h. unflagged_p t h && d (coordinator h) t) es ≡ q

  none : Anys [] false false false false false false
  unfolding any
  none = record { aborts = refl; commits = refl; ends = refl; unflagged = refl; flagged = refl; decided = refl }

  one_more_law : (p : Held → Bool) (es : List Held) (x : Held) → any p (es ++ x ∷ []) ≡ (any p es || p x)
  unfolding any
  one_more_law p es x = any_append p es (x ∷ []) ∙ rw (or-false (p x))

  more : {es : List Held} {a b e u g q : Bool} (x : Held) → eqb x.transaction t ≡ true → Anys es a b e u g q
      → Anys (es ++ x ∷ []) (a || eqb x.kind A) (b || eqb x.kind CC) (e || eqb x.kind CP) (u || eqb x.kind P && not x.flagged) (g || eqb x.kind P && x.flagged)
      (q || eqb x.kind P && not x.flagged && d (coordinator x) t)
  more {es} x o w = record {
    aborts = one_more_law (is A t) es x ∙ rw (w.aborts, o, and-true (eqb x.kind A));
    commits = one_more_law (is CC t) es x ∙ rw (w.commits, o, and-true (eqb x.kind CC));
    ends = one_more_law (is CP t) es x ∙ rw (w.ends, o, and-true (eqb x.kind CP));
    unflagged = one_more_law (unflagged_p t) es x ∙ rw (w.unflagged, o, and-true (eqb x.kind P));
    flagged = one_more_law (flagged_p t) es x ∙ rw (w.flagged, o, and-true (eqb x.kind P));
    decided = one_more_law (λ h. unflagged_p t h && d (coordinator h) t) es x ∙ rw (w.decided, o, and-true (eqb x.kind P));
  }

  abbrev judged : Bool → Bool → Bool → Bool → Bool → Bool → Verdict
  judged a b e u g q = if a then free else if b || e && u then install else if e && g then free else if q then flag else stay

  verdict_is : {es : List Held} {a b e u g q : Bool} → Anys es a b e u g q → verdict d es t ≡ judged a b e u g q
  unfolding verdict
  verdict_is w = rw (w.aborts, w.commits, w.ends, w.unflagged, w.flagged, w.decided)

  -- an entry of another transaction
  other : {es : List Held} {a b e u g q : Bool} (x : Held) → eqb x.transaction t ≡ false → Anys es a b e u g q → Anys (es ++ x ∷ []) a b e u g q
  other {es} x o w = record {
    aborts = pass (is A t) (rw o (and-false (eqb x.kind A))) ∙ w.aborts;
    commits = pass (is CC t) (rw o (and-false (eqb x.kind CC))) ∙ w.commits;
    ends = pass (is CP t) (rw o (and-false (eqb x.kind CP))) ∙ w.ends;
    unflagged = pass (unflagged_p t) (rw (o, and-false (eqb x.kind P))) ∙ w.unflagged;
    flagged = pass (flagged_p t) (rw (o, and-false (eqb x.kind P))) ∙ w.flagged;
    decided = pass (λ h. unflagged_p t h && d (coordinator h) t) (rw (o, and-false (eqb x.kind P))) ∙ w.decided;
  }
    where
      pass : (p : Held → Bool) → p x ≡ false → any p (es ++ x ∷ []) ≡ any p es
      pass p z = one_more_law p es x ∙ rw (z, or-false (any p es))

-- ---- what the table takes

pub takes_ended : {X : Type 0} (k : ℕ) → takes k Ended ≡ true → X
unfolding takes
takes_ended {X} k t = go (leb k CC) (eqb k CP) (eqb k A) t
  where
    go : (a b d : Bool) → (if a then false else if b then false else if d then false else false) ≡ true → X
    go true b d t = no_way t
    go false true d t = no_way t
    go false false true t = no_way t
    go false false false t = no_way t

-- CP is not taken before a P
no_CP : (k : ℕ) (s : Stage) → (is_unheard s || is_writing s) ≡ true → takes k s ≡ true → eqb k CP ≡ false
unfolding takes
no_CP k s early t = go (eqb k CP) refl
  where
    never : (s : Stage) → (is_unheard s || is_writing s) ≡ true → takes CP s ≡ true → true ≡ false
    never Unheard a b = no_way b
    never Writing a b = no_way b
    never Prepared a b = no_way a
    never Ended a b = no_way a

    go : (b : Bool) → eqb k CP ≡ b → b ≡ false
    go true e = never s early (rw (eqb-true k CP e) at t)
    go false e = refl

-- after a P only CP and A
pub record EndsPrepared (k : ℕ) : Type 0 where
  pub no_P : eqb k P ≡ false
  pub no_CC : eqb k CC ≡ false
  pub no_write : leb k DELETE ≡ false
  pub ends : (eqb k CP || eqb k A) ≡ true

pub takes_prepared : (k : ℕ) → takes k Prepared ≡ true → EndsPrepared k
unfolding takes
takes_prepared k t =
    let r = above (leb k CC) (eqb k CP) (eqb k A) t in
    let u = leb-false k CC r.0 in
    record { no_P = ne_eqb k P (λ e. omega arith); no_CC = ne_eqb k CC (λ e. omega arith); no_write = lt-leb k DELETE (omega arith); ends = r.1 }
  where
    above : (a b d : Bool) → (if a then false else if b then true else if d then true else false) ≡ true → (a ≡ false) × ((b || d) ≡ true)
    above true b d t = no_way t
    above false true d t = (refl, refl)
    above false false true t = (refl, refl)
    above false false false t = no_way t

-- ---- one more entry of the transaction: place m

module _ (h : List ℕ) (d : ℕ → ℕ → Bool) (t : ℕ) where
  -- what is known of the entries es, of which an answer of looking back says the last of the transaction
  data Known (es : List Held) (l : ℕ) : Type 0 where
    silent : Anys d t es false false false false false false → (is_unheard (stage_at h l) || is_writing (stage_at h l)) ≡ true → Known es l
    ready : (q : Bool) → Anys d t es false false false (not (flagged_at h l)) (flagged_at h l) q → stage_at h l ≡ Prepared → Known es l
    over : stage_at h l ≡ Ended → Known es l

  record After (es : List Held) (m : ℕ) : Type 0 where
    known : Known es (suc m)
    says : verdict d es t ≡ decided_by d h m
    commits : any (is CC t) es ≡ eqb (item_at h m).entry.kind CC

  module _ (es : List Held) (m : ℕ) (o : eqb (item_at h m).entry.transaction t ≡ true) where
    abbrev x : Held
    x = (item_at h m).entry

    abbrev k : ℕ
    k = (item_at h m).entry.kind

    after_silent : Anys d t es false false false false false false → eqb k CP ≡ false → After (es ++ x ∷ []) m
    unfolding stage_at stage_after flagged_at decided_by to_flag
    after_silent w cp = record { known = next (leb k DELETE) refl (eqb k P) refl; says = verdict_is d t w' ∙ rw (cp, eqb-true x.transaction t o) (same (eqb k A) (eqb k CC)); commits = w'.commits }
      where
        w' : Anys d t (es ++ x ∷ []) (eqb k A) (eqb k CC) (eqb k CP) (eqb k P && not x.flagged) (eqb k P && x.flagged) (eqb k P && not x.flagged && d (coordinator x) t)
        w' = more d t x o w

        q : Bool
        q = eqb k P && not x.flagged && d (coordinator x) t

        same : (a b : Bool) → (if a then free else if b || false then install else if q then flag else stay) ≡ (if a then free else if b then install else if q then flag else stay)
        same a true = refl
        same a false = refl

        next : (w : Bool) → leb k DELETE ≡ w → (p : Bool) → eqb k P ≡ p → Known (es ++ x ∷ []) (suc m)
        next true e p f = let u = leb-true k DELETE e in silent (rw (ne_eqb k A (λ z. omega arith), ne_eqb k CC (λ z. omega arith), ne_eqb k CP (λ z. omega arith), ne_eqb k P (λ z. omega arith)) at w') (rw e)
        next false e true f = let u = eqb-true k P f in ready _ (rw (ne_eqb k A (λ z. omega arith), ne_eqb k CC (λ z. omega arith), ne_eqb k CP (λ z. omega arith), f) at w') (rw (e, f))
        next false e false f = over (rw (e, f))

    after_ready : (q : Bool) → Anys d t es false false false (not (flagged_at h (last_before h m))) (flagged_at h (last_before h m)) q → EndsPrepared k → After (es ++ x ∷ []) m
    unfolding stage_at stage_after decided_by to_flag
    after_ready q w r = record { known = over (rw (r.no_write, r.no_P)); says = verdict_is d t w' ∙ rw (r.no_P, r.no_CC) (same (eqb k A) (eqb k CP) f r.ends); commits = w'.commits }
      where
        f : Bool
        f = flagged_at h (last_before h m)

        w' : Anys d t (es ++ x ∷ []) (eqb k A) (eqb k CC) (eqb k CP) (not f || eqb k P && not x.flagged) (f || eqb k P && x.flagged) (q || eqb k P && not x.flagged && d (coordinator x) t)
        w' = more d t x o w

        same : (a e f : Bool) → (e || a) ≡ true → (if a then free else if e && (not f || false) then install else if e && (f || false) then free else if q || false then flag else stay)
            ≡ (if a then free else if e then (if f then free else install) else stay)
        same true e f z = refl
        same false true true z = refl
        same false true false z = refl
        same false false f z = no_way z

    after : Known es (last_before h m) → takes k (stage_at h (last_before h m)) ≡ true → After (es ++ x ∷ []) m
    after (silent w s) t = after_silent w (no_CP k _ s t)
    after (ready q w s) t = after_ready q w (takes_prepared k (rw s at t))
    after (over s) t = takes_ended k (rw s at t)

  -- what the last place of the transaction, if there is one, says of the entries es
  data By (es : List Held) : ℕ → Type 0 where
    nothing : Anys d t es false false false false false false → By es 0
    latest : {m : ℕ} → After es m → By es (suc m)

  by_known : {es : List Held} {l : ℕ} → By es l → Known es l
  unfolding stage_at
  by_known (nothing w) = silent w refl
  by_known (latest a) = a.known

  -- an entry of another transaction changes nothing
  by_other : {es : List Held} {l : ℕ} (y : Held) → eqb y.transaction t ≡ false → By es l → By (es ++ y ∷ []) l
  by_other y z (nothing w) = nothing (other d t y z w)
  by_other {es} y z (latest {m} a) = latest (record { known = still a.known; says = asks.0 ∙ a.says; commits = asks.1 ∙ a.commits })
    where
      whole : Anys d t es (any (is A t) es) (any (is CC t) es) (any (is CP t) es) (any (unflagged_p t) es) (any (flagged_p t) es) (any (λ h. unflagged_p t h && d (coordinator h) t) es)
      whole = record { aborts = refl; commits = refl; ends = refl; unflagged = refl; flagged = refl; decided = refl }

      asks : (verdict d (es ++ y ∷ []) t ≡ verdict d es t) × (any (is CC t) (es ++ y ∷ []) ≡ any (is CC t) es)
      asks = (verdict_is d t (other d t y z whole) ∙ sym (verdict_is d t whole), (other d t y z whole).commits)

      still : Known es (suc m) → Known (es ++ y ∷ []) (suc m)
      still (silent w s) = silent (other d t y z w) s
      still (ready q w s) = ready q (other d t y z w) s
      still (over s) = over s

-- ---- the places of a section that are looked at

follow : (g x : Item) → may_follow g x ≡ true → (g.stream ≤ x.stream) × (g.stream ≡ x.stream → g.entry.epoch ≤ x.entry.epoch)
unfolding may_follow
follow g x w =
    ⊎_elim
    (λ a. let z = ltb-true g.stream x.stream a in (omega arith, λ e. absurd (omega arith)))
    (λ a. let z = eqb-true g.stream x.stream (and_l _ _ a) in (omega arith, λ e. leb-true _ _ (and_r (eqb g.stream x.stream) _ a)))
    (either (ltb g.stream x.stream) _ w)

pub own : (h : List ℕ) (s t k : ℕ) → is_of h s t k ≡ true → ((item_at h k).stream ≡ s) × ((item_at h k).entry.transaction ≡ t)
unfolding is_of
own h s t k z = (eqb-true _ _ (and_l _ _ z), eqb-true _ _ (and_r (eqb (item_at h k).stream s) _ z))

module _ (h : List ℕ) (n : ℕ) (o : Orderly h n) where
  abbrev pub Later : ℕ → ℕ → Type 0
  Later a b = ((item_at h a).stream ≤ (item_at h b).stream) × ((item_at h a).stream ≡ (item_at h b).stream → (item_at h a).entry.epoch ≤ (item_at h b).entry.epoch)

  -- by stream, then epoch
  pub later : (a b : ℕ) → a ≤ b → b < n → Later a b
  later a zero l u = let z : a ≡ 0 = omega arith in rw z (omega arith, λ e. omega arith)
  later a (suc b) l u = go (ℕ_discrete a (suc b)) (later a b)
    where
      go : Dec (a ≡ suc b) → (a ≤ b → b < n → Later a b) → Later a (suc b)
      go (yes z) ih = rw z (omega arith, λ e. omega arith)
      go (no z) ih =
          let p = ih (omega arith) (omega arith) in
          let q = follow (item_at h b) (item_at h (suc b)) (o.rising b u) in
          (omega (arith, p.0, q.0), λ e. omega (arith, p.1 (omega (arith, p.0, q.0)), q.1 (omega (arith, p.0, q.0))))

  module _ (e s t : ℕ) where
    abbrev pub es : ℕ → List Held
    es m = upto e (held_in h m s)

    pub es_more : (m : ℕ) → es (suc m) ≡ (if eqb (item_at h m).stream s && leb (item_at h m).entry.epoch e then es m ++ (item_at h m).entry ∷ [] else es m)
    unfolding upto filter mine
    es_more m =
        ap (λ xs. upto e (mine s xs)) (parse_more 20 item_of m h) ∙ ap (upto e) (mine_append s (items m h) (item_at h m ∷ []))
        ∙ go (eqb (item_at h m).stream s)
      where
        x : Held
        x = (item_at h m).entry

        there : (b : Bool) → es m ++ (if b then x ∷ [] else []) ≡ (if b then es m ++ x ∷ [] else es m)
        there true = refl
        there false = append-nil (es m)

        go : (a : Bool) → upto e (mine s (items m h) ++ (if a then x ∷ [] else [])) ≡ (if a && leb x.epoch e then es m ++ x ∷ [] else es m)
        go true = filter_append (λ g. leb g.epoch e) (mine s (items m h)) (x ∷ []) ∙ there (leb x.epoch e)
        go false = rw (append-nil (mine s (items m h)))

    -- a place that is looked at: those before it of its transaction are looked at too
    record Looked (m : ℕ) : Type 0 where
      stream : (item_at h m).stream ≡ s
      transaction : (item_at h m).entry.transaction ≡ t
      epoch : (item_at h m).entry.epoch ≤ e

    looked : (m : ℕ) → looked_at h e s t m ≡ true → Looked m
    unfolding looked_at
    looked m w =
        let k = own h s t m (and_l (is_of h s t m) _ w) in
        record { stream = k.0; transaction = k.1; epoch = leb-true _ _ (and_r (is_of h s t m) _ w) }

    looked_before : (m : ℕ) → m < n → looked_at h e s t m ≡ true → last_with (looked_at h e s t) m ≡ last_before h m
    unfolding looked_at
    looked_before m u w =
        let r = looked m w in
        rw (r.stream, r.transaction)
        (same_last (looked_at h e s t) (is_of h s t) m (λ k l. go k l (is_of h s t k) refl))
      where
        go : (k : ℕ) → k < m → (b : Bool) → is_of h s t k ≡ b → (b && leb (item_at h k).entry.epoch e) ≡ b
        go k l false z = refl
        go k l true z = let r = looked m w in le-leb (item_at h k).entry.epoch e (omega (arith, r.epoch, (later k m (omega arith) u).1 ((own h s t k z).0 ∙ sym r.stream)))

    -- the verdict, as far as place m
    by_last : (d : ℕ → ℕ → Bool) (m : ℕ) → m ≤ n → By h d t (es m) (last_with (looked_at h e s t) m)
    unfolding last_with looked_at is_of upto filter mine parse
    by_last d zero l = nothing (none d t)
    by_last d (suc m) l = rw (es_more m) (go (eqb (item_at h m).stream s) refl (eqb x.transaction t) refl (leb x.epoch e) refl (by_last d m (omega arith)))
      where
        x : Held
        x = (item_at h m).entry

        go : (a : Bool) → eqb (item_at h m).stream s ≡ a → (b : Bool) → eqb x.transaction t ≡ b → (c : Bool) → leb x.epoch e ≡ c → By h d t (es m) (last_with (looked_at h e s t) m)
            → By h d t (if a && c then es m ++ x ∷ [] else es m) (if (a && b) && c then suc m else last_with (looked_at h e s t) m)
        go true ea true eb true ec ih =
            let w : looked_at h e s t m ≡ true = rw (ea, eb, ec) in
            latest (after h d t (es m) m eb (rw (looked_before m (omega arith) w) at (by_known h d t ih)) (o.taken m (omega arith)))
        go true ea false eb true ec ih = by_other h d t x eb ih
        go true ea true eb false ec ih = ih
        go true ea false eb false ec ih = ih
        go false ea b eb c ec ih = ih

    -- nothing follows an end entry
    ended_last : (a : ℕ) → is_of h s t a ≡ true → (item_at h a).entry.kind ≡ CC → (m : ℕ) → a < m → m ≤ n → last_with (is_of h s t) m ≡ suc a
    unfolding last_with stage_at stage_after
    ended_last a w k zero l u = absurd (omega arith)
    ended_last a w k (suc m) l u = go (ℕ_discrete a m) (is_of h s t m) refl (λ v. ended_last a w k m v (omega arith))
      where
        go : Dec (a ≡ m) → (b : Bool) → is_of h s t m ≡ b → (a < m → last_with (is_of h s t) m ≡ suc a) → (if b then suc m else last_with (is_of h s t) m) ≡ suc a
        go (yes z) true q ih = ap suc (sym z)
        go (yes z) false q ih = no_way (sym q ∙ ap (is_of h s t) (sym z) ∙ w)
        go (no z) false q ih = ih (omega arith)
        go (no z) true q ih =
            let r = own h s t m q in
            let b : last_before h m ≡ suc a = rw (r.0, r.1) (ih (omega arith)) in
            takes_ended (item_at h m).entry.kind (rw (b, k) at (o.taken m (omega arith)))

    -- stream s has CC(t): by its last place, of any epoch
    decides_is : any (is CC t) (es n) ≡ decides h n e s t
    unfolding decides commits_at looked_at last_with
    decides_is = iff (any (is CC t) (es n)) (decides h n e s t) (λ w. there (last_with (looked_at h e s t) n) refl (by_last never n (omega arith)) w) (λ w. back (last_with (is_of h s t) n) refl w)
      where
        never : ℕ → ℕ → Bool
        never c u = false

        iff : (a b : Bool) → (a ≡ true → b ≡ true) → (b ≡ true → a ≡ true) → a ≡ b
        iff true b f g = sym (f refl)
        iff false true f g = g refl
        iff false false f g = refl

        there : (l : ℕ) → last_with (looked_at h e s t) n ≡ l → By h never t (es n) l → any (is CC t) (es n) ≡ true → decides h n e s t ≡ true
        there zero z (nothing w) c = no_way (sym w.commits ∙ c)
        there (suc j) z (latest a) c =
            let r = last_passes (looked_at h e s t) n j z in
            let k : (item_at h j).entry.kind ≡ CC = eqb-true _ _ (sym a.commits ∙ c) in
            let l : last_with (is_of h s t) n ≡ suc j = ended_last j (and_l (is_of h s t j) _ r.1) k n r.0 (omega arith) in
            rw (l, k, and_r (is_of h s t j) _ r.1)

        back : (l : ℕ) → last_with (is_of h s t) n ≡ l → commits_at h e l ≡ true → any (is CC t) (es n) ≡ true
        back zero z c = no_way c
        back (suc j) z c =
            let k = eqb (item_at h j).entry.kind CC in
            let w : looked_at h e s t j ≡ true = rw ((last_passes (is_of h s t) n j z).1, and_r k _ c) in
            let l : last_with (looked_at h e s t) n ≡ suc j = last_jump (looked_at h e s t) (is_of h s t) (λ i y. and_l (is_of h s t i) _ y) n ∙ ap (last_with (looked_at h e s t)) z ∙ rw w in
            commits_by (rw l at (by_last never n (omega arith))) ∙ and_l k _ c
          where
            commits_by : By h never t (es n) (suc j) → any (is CC t) (es n) ≡ eqb (item_at h j).entry.kind CC
            commits_by (latest a) = a.commits

  -- THE LAW: the verdict on the transaction of a place is the one that its last place looked at decides
  pub verdict_by : (e i j : ℕ) → decider_at h n e i ≡ suc j → verdict_at h n e i ≡ decided_by (decides h n e) h j
  unfolding verdict_at committed
  verdict_by e i j z =
      let d : committed e (held_in h n) ≡ decides h n e = fun_ext (λ c. fun_ext (λ t. decides_is e c t)) in
      rw d (says_by (rw z at (by_last e (item_at h i).stream (item_at h i).entry.transaction (decides h n e) n (omega arith))))
    where
      says_by : By h (decides h n e) (item_at h i).entry.transaction (es e (item_at h i).stream (item_at h i).entry.transaction n) (suc j)
          → verdict (decides h n e) (upto e (held_in h n (item_at h i).stream)) (item_at h i).entry.transaction ≡ decided_by (decides h n e) h j
      says_by (latest a) = a.says

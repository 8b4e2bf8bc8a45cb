-- What is asked of a stream's held entries is kept by a close, by one more entry, and by a raised open epoch. Assumes nothing.
use Prim.Native.Nat.{ℕ, suc, ◌<◌, ◌≤◌}
use mathlib.Core.Path.{◌≡◌, refl, sym, ap, ◌∙◌}
use mathlib.Core.Logic.{◌⊎◌, inl, inr, ⊎_elim}
use mathlib.Core.Bool.{Bool, true, false, not, ◌&&◌, ◌||◌, and-true, and_assoc, or-true}
use mathlib.Core.List.Memᴰ
use mathlib.Core.List.{append-nil, append_assoc, List, [], ◌∷◌, ◌++◌, Memᴰ}
use native.Mathlib.Omega.{arith}
use native.Mathlib.Decide.{dec_lt, ℕ_discrete}
use lib.Dec.{leb, ltb, eqb}
use borrow.Author.Tests.{eq-eqb, ne_eqb, eqb-true, eqb-false, leb-true, leb-false, le-leb, lt-leb, lt-ltb}
use Rattle.std.specs.Prelude.{if◌then◌else◌}
use Rattle.model.specs.Lists.{any, all, every}
use Rattle.model.specs.Entry.{DELETE, P, CC, CP, A}
use Rattle.model.specs.Account.{Held, coordinator}
use Rattle.model.specs.Stages.{stage_after, stage_from, stage, is_unheard, is_prepared, takes}
use Rattle.model.specs.Taking.{hold}
use Rattle.model.specs.Closing.{upto, is, flagged_p, unflagged_p, Verdict, free, install, flag, stay, verdict, with_flag, left, survivors}
use Rattle.model.specs.Accepting.{entry_fits, follows, stream_fits}
use Rattle.model.specs.declared.Entry.{Entry}
use Rattle.model.specs.declared.Stage.{Stage}
use Rattle.model.specs.declared.Stage.TheVariants.{Unheard, Writing, Prepared, Ended}
use Rattle.model.proofs.Tests.{no_way, and_l, and_r, either, nth, any_in, any_out, all_in, all_snoc, filter_in, in_filter}

abbrev pub In : Held → List Held → Type 0
In h hs = Memᴰ h hs

-- ---- the stage of a transaction

pub stage_snoc : (t : ℕ) (s : Stage) (hs : List Held) (h : Held) → stage_from t s (hs ++ h ∷ []) ≡ (if eqb h.transaction t then stage_after h.kind else stage_from t s hs)
unfolding stage_from
stage_snoc t s [] h = refl
stage_snoc t s (x ∷ hs) h = stage_snoc t (if eqb x.transaction t then stage_after x.kind else s) hs h

-- prepared means that a P is held
prepared_has : (t : ℕ) (s : Stage) (hs : List Held) → is_prepared s ≡ false → is_prepared (stage_from t s hs) ≡ true → any (is P t) hs ≡ true
unfolding stage_from stage_after any
prepared_has t s [] n r = no_way (sym n ∙ r)
prepared_has t s (h ∷ hs) n r = go (eqb h.kind P) (eqb h.transaction t) (leb h.kind DELETE) (λ s'. prepared_has t s' hs) r
  where
    go : (p b d : Bool) → ((s' : Stage) → is_prepared s' ≡ false → is_prepared (stage_from t s' hs) ≡ true → any (is P t) hs ≡ true)
        → is_prepared (stage_from t (if b then (if d then Writing else if p then Prepared else Ended) else s) hs) ≡ true → (p && b || any (is P t) hs) ≡ true
    go true true d ih r = refl
    go true false d ih r = ih s n r
    go false true true ih r = ih Writing refl r
    go false true false ih r = ih Ended refl r
    go false false d ih r = ih s n r

abbrev is_ended : Stage → Bool
is_ended Unheard = false
is_ended Writing = false
is_ended Prepared = false
is_ended Ended = true

-- an ended transaction takes nothing, and a prepared one only CP and A
over : {X : Type 0} (s : Stage) (k : ℕ) → is_ended s ≡ true → takes k s ≡ true → X
unfolding takes
over Unheard k r t = no_way r
over Writing k r t = no_way r
over Prepared k r t = no_way r
over {X} Ended k r t = go (leb k CC) (eqb k CP) (eqb k A) t
  where
    go : (a b d : Bool) → (if a then false else if b then false else if d then false else false) ≡ true → X
    go true b d t = no_way t
    go false true d t = no_way t
    go false false true t = no_way t
    go false false false t = no_way t

takes_prepared : (k : ℕ) → takes k Prepared ≡ true → CC < k
unfolding takes
takes_prepared k t = go (leb k CC) refl t
  where
    go : (a : Bool) → leb k CC ≡ a → (if a then false else if eqb k CP then true else if eqb k A then true else false) ≡ true → CC < k
    go true e t = no_way t
    go false e t = leb-false k CC e

takes_CP : (s : Stage) → takes CP s ≡ true → is_prepared s ≡ true
unfolding takes
takes_CP s t = t

-- ---- what a verdict leaves of a stage, and the stage that it speaks of

shrunk : Verdict → Stage → Stage
shrunk free s = Unheard
shrunk install s = Unheard
shrunk stay s = s
shrunk flag Unheard = Unheard
shrunk flag Writing = Unheard
shrunk flag Prepared = Prepared
shrunk flag Ended = Ended

reached : Verdict → Stage → Bool
reached free s = is_ended s
reached install s = is_ended s
reached flag s = is_prepared s || is_ended s
reached stay s = true

-- the least kind that a verdict rests on
least : Verdict → ℕ
least free = CC
least install = CC
least flag = P
least stay = 0

-- the verdict of a transaction without end entry
calm : Verdict → Bool
calm free = false
calm install = false
calm flag = true
calm stay = true

shrunk_unheard : (w : Verdict) → shrunk w Unheard ≡ Unheard
unfolding shrunk
shrunk_unheard free = refl
shrunk_unheard install = refl
shrunk_unheard flag = refl
shrunk_unheard stay = refl

reached_after : (w : Verdict) (k : ℕ) → least w ≤ k → reached w (stage_after k) ≡ true
unfolding reached stage_after least
reached_after free k h = rw (lt-leb k DELETE (omega arith), ne_eqb k P (λ e. omega arith))
reached_after install k h = rw (lt-leb k DELETE (omega arith), ne_eqb k P (λ e. omega arith))
reached_after flag k h = rw (lt-leb k DELETE (omega arith)) (go (eqb k P))
  where
    go : (b : Bool) → (is_prepared (if b then Prepared else Ended) || is_ended (if b then Prepared else Ended)) ≡ true
    go true = refl
    go false = refl
reached_after stay k h = refl

-- what the verdict and the stage are where the stage is reached and yet an entry is taken
data Still : Verdict → Stage → Type 0 where
  stays : {s : Stage} → Still stay s
  flags : Still flag Prepared

still : (w : Verdict) (s : Stage) (k : ℕ) → reached w s ≡ true → takes k s ≡ true → Still w s
unfolding reached
still free s k r t = over s k r t
still install s k r t = over s k r t
still flag Unheard k r t = no_way r
still flag Writing k r t = no_way r
still flag Prepared k r t = flags
still flag Ended k r t = over Ended k refl t
still stay s k r t = stays

reached_keeps : {w : Verdict} {s : Stage} (k : ℕ) → Still w s → takes k s ≡ true → reached w (stage_after k) ≡ true
unfolding reached least
reached_keeps k stays t = refl
reached_keeps k flags t = reached_after flag k (omega (arith, takes_prepared k t))

-- there the verdict changes neither the stage nor the one after it
still_same : {w : Verdict} {s : Stage} → Still w s → shrunk w s ≡ s
unfolding shrunk
still_same stays = refl
still_same flags = refl

after_shrunk : {w : Verdict} {s : Stage} (k : ℕ) → Still w s → takes k s ≡ true → shrunk w (stage_after k) ≡ stage_after k
unfolding shrunk stage_after
after_shrunk k stays t = refl
after_shrunk k flags t = let l = takes_prepared k t in rw (lt-leb k DELETE (omega arith), ne_eqb k P (λ e. omega arith))

-- where a P or a write is taken, no P was before it
fresh_shrunk : (s : Stage) (k : ℕ) → k ≤ P → takes k s ≡ true → shrunk flag s ≡ Unheard
unfolding shrunk
fresh_shrunk Unheard k h t = refl
fresh_shrunk Writing k h t = refl
fresh_shrunk Prepared k h t = absurd (omega (arith, takes_prepared k t))
fresh_shrunk Ended k h t = over Ended k refl t

-- ---- an entry and those before it

-- the six conditions of `follows`
record Follows (c o : ℕ) (hs : List Held) (s : Stage) (h : Held) : Type 0 where
  from : leb 1 h.epoch ≡ true
  till : leb h.epoch o ≡ true
  rises : all (λ g. leb g.epoch h.epoch) hs ≡ true
  taken : takes h.kind s ≡ true
  late : (ltb h.kind CC || ltb c h.epoch) ≡ true
  flags : (not h.flagged || eqb h.kind P && leb h.epoch c && is_unheard s) ≡ true

flagged_has : {c o : ℕ} {hs : List Held} {s : Stage} {h : Held} → Follows c o hs s h → h.flagged ≡ true → (h.epoch ≤ c) × (is_unheard s ≡ true) × (eqb h.kind P ≡ true)
flagged_has {c} {s = s} {h = h} w e =
    let q = rw e at w.flags in
    let r = and_l (eqb h.kind P && leb h.epoch c) _ q in
    (leb-true h.epoch c (and_r (eqb h.kind P) _ r), and_r (eqb h.kind P && leb h.epoch c) _ q, and_l (eqb h.kind P) _ r)

module _ (f k i c o : ℕ) where
  -- the first of the entries, and the rest
  record First (before : List Held) (h : Held) (hs : List Held) : Type 0 where
    fits : entry_fits f k i h ≡ true
    place : Follows c o before (stage h.transaction before) h
    rest : stream_fits f k i c o (before ++ h ∷ []) hs ≡ true

  first : (before : List Held) (h : Held) (hs : List Held) → stream_fits f k i c o before (h ∷ hs) ≡ true → First before h hs
  unfolding stream_fits follows
  first before h hs w =
      let t = follows c o before (stage h.transaction before) h in
      let a = and_l (entry_fits f k i h && t) _ w in
      let n = nth _ (and_r (entry_fits f k i h) _ a) in
      record {
        fits = and_l (entry_fits f k i h) _ a;
        place = record { from = n 0; till = n 1; rises = n 2; taken = n 3; late = n 4; flags = n 5 };
        rest = and_r (entry_fits f k i h && t) _ w;
      }

  -- one of the entries, and those before it
  record Placed (before hs : List Held) (g : Held) : Type 0 where
    earlier : List Held
    fits : entry_fits f k i g ≡ true
    place : Follows c o earlier (stage g.transaction earlier) g
    all_before : {x : Held} → In x before → In x earlier
    all_there : {x : Held} → In x earlier → In x (before ++ hs)

  placed : {g : Held} (before hs : List Held) → stream_fits f k i c o before hs ≡ true → In g hs → Placed before hs g
  placed before [] w m = elim m [ ]
  placed before (h ∷ hs) w (Memᴰ.head e) =
      let r = first before h hs w in
      record { earlier = before; fits = rw e r.fits; place = rw e r.place; all_before = λ m. m; all_there = Memᴰ.append_left (h ∷ hs) }
  placed before (h ∷ hs) w (Memᴰ.tail m) =
      let r = placed (before ++ h ∷ []) hs (first before h hs w).rest m in
      record { earlier = r.earlier; fits = r.fits; place = r.place; all_before = λ m. r.all_before (Memᴰ.append_left (h ∷ []) m); all_there = λ m. rw append_assoc at (r.all_there m) }

  pub fits_in : {g : Held} (hs : List Held) → stream_fits f k i c o [] hs ≡ true → In g hs → entry_fits f k i g ≡ true
  fits_in hs w m = (placed [] hs w m).fits

  -- ---- the close of epoch c + 1

  -- an entry of t that is looked at, of kind m or above
  record Has (m t : ℕ) (hs : List Held) : Type 0 where
    entry : Held
    among : In entry hs
    early : entry.epoch ≤ suc c
    own : entry.transaction ≡ t
    kinds : m ≤ entry.kind

  -- an entry that is kept, in its new place, as it is or flagged
  module _ (kept before : List Held) (s : Stage) (h : Held) (w : Follows c o before s h) (below : all (λ g. leb g.epoch h.epoch) kept ≡ true) where
    kept_same : (ltb h.kind CC || ltb (suc c) h.epoch) ≡ true → follows (suc c) o kept s h ≡ true
    unfolding follows every
    kept_same late = rw (w.from, w.till, below, w.taken, late) (go h.flagged refl)
      where
        go : (b : Bool) → h.flagged ≡ b → ((not b || eqb h.kind P && leb h.epoch (suc c) && is_unheard s) && true) ≡ true
        go true e = let r = flagged_has w e in rw (le-leb h.epoch (suc c) (omega (arith, r.0)), r.1, r.2)
        go false e = refl

    kept_flag : h.kind ≡ P → h.epoch ≤ suc c → follows (suc c) o kept Unheard (with_flag h) ≡ true
    unfolding follows every takes
    kept_flag q l = rw (w.from, w.till, below, q, le-leb h.epoch (suc c) l)

  module _ (v : ℕ → Verdict) where
    -- the stage that the verdict speaks of has been reached, or will be
    abbrev Due : ℕ → List Held → List Held → Type 0
    Due t before hs = (reached (v t) (stage t before) ≡ true) ⊎ Has (least (v t)) t hs

    due_step : (t : ℕ) (before hs : List Held) (h : Held) → takes h.kind (stage h.transaction before) ≡ true → Due t before (h ∷ hs) → Due t (before ++ h ∷ []) hs
    due_step t before hs h w (inl r) = inl (rw (stage_snoc t Unheard before h) (go (eqb h.transaction t) refl))
      where
        go : (b : Bool) → eqb h.transaction t ≡ b → reached (v t) (if b then stage_after h.kind else stage t before) ≡ true
        go true e = let w' = rw (eqb-true h.transaction t e) at w in reached_keeps h.kind (still (v t) (stage t before) h.kind r w') w'
        go false e = r
    due_step t before hs h w (inr x) = go (Memᴰ.cases_cons x.among)
      where
        go : (x.entry ≡ h) ⊎ In x.entry hs → Due t (before ++ h ∷ []) hs
        go (inl e) = inl (rw (stage_snoc t Unheard before h, eq-eqb h.transaction t (sym (ap (λ r. r.transaction) e) ∙ x.own)) (reached_after (v t) h.kind (rw e at x.kinds)))
        go (inr m) = inr (record { entry = x.entry; among = m; early = x.early; own = x.own; kinds = x.kinds })

    -- what is kept of the entries before
    record Kept (kept before : List Held) : Type 0 where
      stages : (t : ℕ) → stage t kept ≡ shrunk (v t) (stage t before)
      lower : (m : ℕ) → all (λ g. leb g.epoch m) before ≡ true → all (λ g. leb g.epoch m) kept ≡ true

    dropped : (kept before : List Held) (h : Held) → Kept kept before → shrunk (v h.transaction) (stage_after h.kind) ≡ shrunk (v h.transaction) (stage h.transaction before) → Kept kept (before ++ h ∷ [])
    dropped kept before h r e = record {
      stages = λ t. r.stages t ∙ rw (stage_snoc t Unheard before h) (go t (eqb h.transaction t) refl);
      lower = λ m a. r.lower m (and_l _ _ (sym (all_snoc (λ g. leb g.epoch m) before h) ∙ a));
    }
      where
        go : (t : ℕ) (b : Bool) → eqb h.transaction t ≡ b → shrunk (v t) (stage t before) ≡ shrunk (v t) (if b then stage_after h.kind else stage t before)
        go t true q = sym (rw (eqb-true h.transaction t q) at e)
        go t false q = refl

    -- x is h, perhaps flagged
    retained : (kept before : List Held) (h x : Held) → Kept kept before → x.transaction ≡ h.transaction → x.epoch ≡ h.epoch → x.kind ≡ h.kind
        → shrunk (v h.transaction) (stage_after h.kind) ≡ stage_after h.kind → Kept (kept ++ x ∷ []) (before ++ h ∷ [])
    retained kept before h x r et ee ek e = record {
      stages = λ t. stage_snoc t Unheard kept x ∙ rw (stage_snoc t Unheard before h, et, ek, r.stages t) (go t (eqb h.transaction t) refl);
      lower = λ m a.
          let s = sym (all_snoc (λ g. leb g.epoch m) before h) ∙ a in
          all_snoc (λ g. leb g.epoch m) kept x ∙ rw (ee, r.lower m (and_l _ _ s), and_r (all (λ g. leb g.epoch m) before) _ s);
    }
      where
        go : (t : ℕ) (b : Bool) → eqb h.transaction t ≡ b → (if b then stage_after h.kind else shrunk (v t) (stage t before)) ≡ shrunk (v t) (if b then stage_after h.kind else stage t before)
        go t true q = sym (rw (eqb-true h.transaction t q) at e)
        go t false q = refl

    record Facts (before hs : List Held) : Type 0 where
      quiet : (g : Held) → In g hs → g.epoch ≤ suc c → calm (v g.transaction) ≡ true → g.kind < CC
      due : (t : ℕ) → Due t before hs

    kept_fits : (kept before hs : List Held) → stream_fits f k i c o before hs ≡ true → Kept kept before → Facts before hs → stream_fits f k i (suc c) o kept (survivors (suc c) v hs) ≡ true
    unfolding stream_fits survivors left shrunk calm stage_after entry_fits
    kept_fits kept before [] w r x = refl
    kept_fits kept before (h ∷ hs) w r x = go (leb h.epoch (suc c)) refl (v h.transaction) refl (λ kept' r'. kept_fits kept' (before ++ h ∷ []) hs here.rest r' x')
      where
        s : Stage
        s = stage h.transaction before

        here : First before h hs
        here = first before h hs w

        x' : Facts (before ++ h ∷ []) hs
        x' = record { quiet = λ g m. x.quiet g (Memᴰ.tail m); due = λ t. due_step t before hs h here.place.taken (x.due t) }

        below : all (λ g. leb g.epoch h.epoch) kept ≡ true
        below = r.lower h.epoch here.place.rises

        Goal : List Held → Type 0
        Goal ys = stream_fits f k i (suc c) o kept (ys ++ survivors (suc c) v hs) ≡ true

        put : (y : Held) → entry_fits f k i y ≡ true → follows (suc c) o kept (stage y.transaction kept) y ≡ true → stream_fits f k i (suc c) o (kept ++ y ∷ []) (survivors (suc c) v hs) ≡ true → Goal (y ∷ [])
        put y a b d = rw (a, b, d)

        not_before : (g : Held) → In g (h ∷ hs) → h.epoch ≤ g.epoch
        not_before g m =
            ⊎_elim (λ (e : g ≡ h). omega (arith, ap (λ r. r.epoch) e)) (λ (m : In g hs). let y = placed (before ++ h ∷ []) hs here.rest m in
            leb-true _ _ (all_in (λ b. leb b.epoch g.epoch) y.place.rises (y.all_before (Memᴰ.append_right before (Memᴰ.head refl))))) (Memᴰ.cases_cons m)

        arrived : (u : Verdict) → v h.transaction ≡ u → suc c < h.epoch → Still u s
        arrived u q l = still u s h.kind (⊎_elim (λ a. rw q at a) (λ y. absurd (omega (arith, y.early, not_before y.entry y.among))) (x.due h.transaction)) here.place.taken

        calm_kind : calm (v h.transaction) ≡ true → leb h.epoch (suc c) ≡ true → h.kind < CC
        calm_kind a e = x.quiet h (Memᴰ.head refl) (leb-true h.epoch (suc c) e) a

        go : (b : Bool) → leb h.epoch (suc c) ≡ b → (u : Verdict) → v h.transaction ≡ u → ((kept' : List Held) → Kept kept' (before ++ h ∷ []) → stream_fits f k i (suc c) o kept' (survivors (suc c) v hs) ≡ true)
            → Goal (if b then left u h else h ∷ [])
        go false e u q rest =
            let l = leb-false h.epoch (suc c) e in
            let a = arrived u q l in
            put h here.fits (rw (r.stages h.transaction, q, still_same a) (kept_same kept before s h here.place below (rw (lt-ltb (suc c) h.epoch l) (or-true (ltb h.kind CC)))))
            (rest (kept ++ h ∷ []) (retained kept before h h r refl refl refl (rw q (after_shrunk h.kind a here.place.taken))))
        go true e free q rest = rest kept (dropped kept before h r (rw q))
        go true e install q rest = rest kept (dropped kept before h r (rw q))
        go true e stay q rest =
            put h here.fits (rw (r.stages h.transaction, q) (kept_same kept before s h here.place below (rw (lt-ltb h.kind CC (calm_kind (rw q) e)))))
            (rest (kept ++ h ∷ []) (retained kept before h h r refl refl refl (rw q)))
        go true e flag q rest = prepare (eqb h.kind P) refl
          where
            prepare : (b : Bool) → eqb h.kind P ≡ b → Goal (if b then with_flag h ∷ [] else [])
            prepare true z =
                let p = eqb-true h.kind P z in
                put (with_flag h) here.fits (rw (r.stages h.transaction, q, fresh_shrunk s h.kind (omega arith) here.place.taken) (kept_flag kept before s h here.place below p (leb-true h.epoch (suc c) e)))
                (rest (kept ++ with_flag h ∷ []) (retained kept before h (with_flag h) r refl refl refl (rw (q, p))))
            prepare false z =
                let n = eqb-false h.kind P z in
                let m = calm_kind (rw q) e in
                let d : h.kind ≤ DELETE = omega arith in
                rest kept (dropped kept before h r (rw (q, le-leb h.kind DELETE d, fresh_shrunk s h.kind (omega arith) here.place.taken)))

  -- ---- what the verdict says

  module _ (d : ℕ → ℕ → Bool) (hs : List Held) (w : stream_fits f k i c o [] hs ≡ true) where
    abbrev es : List Held
    es = upto (suc c) hs

    looked_at_law : (p : Held → Bool) {g : Held} → In g hs → g.epoch ≤ suc c → p g ≡ true → any p es ≡ true
    unfolding upto
    looked_at_law p {g} m l t = any_in p (filter_in (λ h. leb h.epoch (suc c)) m (le-leb g.epoch (suc c) l)) t

    seen : (p : Held → Bool) → any p es ≡ true → (g : Held) × In g hs × (g.epoch ≤ suc c) × (p g ≡ true)
    unfolding upto
    seen p e =
        let x = any_out p es e in
        let y = in_filter (λ h. leb h.epoch (suc c)) hs x.1 in
        (x.0, y.0, leb-true _ _ y.1, x.2)

    found : {p : Held → Bool} (m kd t : ℕ) → m ≤ kd → ((h : Held) → p h ≡ true → is kd t h ≡ true) → any p es ≡ true → Has m t hs
    found {p} m kd t l q e =
        let x = seen p e in
        let z = q x.0 x.3 in
        let kk = eqb-true x.0.kind kd (and_l (eqb x.0.kind kd) _ z) in
        record { entry = x.0; among = x.1; early = x.2; own = eqb-true x.0.transaction t (and_r (eqb x.0.kind kd) _ z); kinds = omega arith }

    -- a CP that is looked at has a P before it, looked at too
    has_P : (t : ℕ) → any (is CP t) es ≡ true → (any (unflagged_p t) es ≡ true) ⊎ (any (flagged_p t) es ≡ true)
    has_P t e = go p.0.flagged refl
      where
        x : (g : Held) × In g hs × (g.epoch ≤ suc c) × (is CP t g ≡ true)
        x = seen (is CP t) e

        y : Placed [] hs x.0
        y = placed [] hs w x.1

        prepared : is_prepared (stage t y.earlier) ≡ true
        prepared = takes_CP (stage t y.earlier) (rw (eqb-true x.0.kind CP (and_l (eqb x.0.kind CP) _ x.3), eqb-true x.0.transaction t (and_r (eqb x.0.kind CP) _ x.3)) at y.place.taken)

        p : (g : Held) × In g y.earlier × (is P t g ≡ true)
        p = any_out (is P t) y.earlier (prepared_has t Unheard y.earlier refl prepared)

        early : p.0.epoch ≤ suc c
        early = omega (arith, x.2, leb-true p.0.epoch x.0.epoch (all_in (λ g. leb g.epoch x.0.epoch) y.place.rises p.1))

        go : (b : Bool) → p.0.flagged ≡ b → (any (unflagged_p t) es ≡ true) ⊎ (any (flagged_p t) es ≡ true)
        go true b = inr (looked_at_law (flagged_p t) (y.all_there p.1) early (rw (p.2, b)))
        go false b = inl (looked_at_law (unflagged_p t) (y.all_there p.1) early (rw (p.2, b)))

    no_end : (t : ℕ) → calm (verdict d es t) ≡ true → (any (is A t) es ≡ false) × (any (is CC t) es ≡ false) × (any (is CP t) es ≡ false)
    unfolding verdict calm
    no_end t q = go (any (is A t) es) (any (is CC t) es) (any (is CP t) es) (any (unflagged_p t) es) (any (flagged_p t) es) (has_P t) q
      where
        go : (a b e u g : Bool) → (e ≡ true → (u ≡ true) ⊎ (g ≡ true)) → calm (if a then free else if b || e && u then install else if e && g then free else if any (λ h. unflagged_p t h && d (coordinator h) t) es then flag else stay) ≡ true
            → (a ≡ false) × (b ≡ false) × (e ≡ false)
        go true b e u g n q = no_way q
        go false true e u g n q = no_way q
        go false false true true g n q = no_way q
        go false false true false true n q = no_way q
        go false false true false false n q = ⊎_elim no_way no_way (n refl)
        go false false false u g n q = (refl, refl, refl)

    quiet_first : (g : Held) → In g hs → g.epoch ≤ suc c → calm (verdict d es g.transaction) ≡ true → g.kind < CC
    unfolding entry_fits
    quiet_first g m l q = go (dec_lt g.kind CC)
      where
        n : (any (is A g.transaction) es ≡ false) × (any (is CC g.transaction) es ≡ false) × (any (is CP g.transaction) es ≡ false)
        n = no_end g.transaction q

        small : g.kind ≤ A
        small = leb-true g.kind A (nth _ (fits_in hs w m) 0)

        one : (kd : ℕ) → g.kind ≡ kd → any (is kd g.transaction) es ≡ true
        one kd e = looked_at_law (is kd g.transaction) m l (rw (eq-eqb g.kind kd e, eq-eqb g.transaction g.transaction refl))

        which : (g.kind < CC → ⊥) → Dec (g.kind ≡ CC) → Dec (g.kind ≡ CP) → g.kind < CC
        which z (yes a) b = no_way (sym n.1 ∙ one CC a)
        which z (no a) (yes b) = no_way (sym n.2 ∙ one CP b)
        which z (no a) (no b) = no_way (sym n.0 ∙ one A (omega (arith, small)))

        go : Dec (g.kind < CC) → g.kind < CC
        go (yes y) = y
        go (no z) = which z (ℕ_discrete g.kind CC) (ℕ_discrete g.kind CP)

    due_first : (t : ℕ) → Due (verdict d es) t [] hs
    unfolding verdict least reached
    due_first t = go (any (is A t) es) (any (is CC t) es || any (is CP t) es && any (unflagged_p t) es) (any (is CP t) es && any (flagged_p t) es) (any (λ h. unflagged_p t h && d (coordinator h) t) es) refl refl refl refl
      where
        ended : (kd : ℕ) → CC ≤ kd → any (is kd t) es ≡ true → Has CC t hs
        ended kd l = found CC kd t l (λ h z. z)

        go : (a b e q : Bool) → any (is A t) es ≡ a → (any (is CC t) es || any (is CP t) es && any (unflagged_p t) es) ≡ b → (any (is CP t) es && any (flagged_p t) es) ≡ e → any (λ h. unflagged_p t h && d (coordinator h) t) es ≡ q
            → (reached (if a then free else if b then install else if e then free else if q then flag else stay) (stage t []) ≡ true) ⊎ Has (least (if a then free else if b then install else if e then free else if q then flag else stay)) t hs
        go true b e q ea eb ee eq = inr (ended A (omega arith) ea)
        go false true e q ea eb ee eq = inr (⊎_elim (ended CC (omega arith)) (λ z. ended CP (omega arith) (and_l _ _ z)) (either (any (is CC t) es) _ eb))
        go false false true q ea eb ee eq = inr (ended CP (omega arith) (and_l _ _ ee))
        go false false false true ea eb ee eq = inr (found P P t (omega arith) (λ h z. and_l (is P t h) _ (and_l (unflagged_p t h) _ z)) eq)
        go false false false false ea eb ee eq = inl refl

    pub fits_close : stream_fits f k i (suc c) o [] (survivors (suc c) (verdict d es) hs) ≡ true
    unfolding stage_from
    fits_close = kept_fits (verdict d es) [] [] hs w (record { stages = λ t. sym (shrunk_unheard (verdict d es t)); lower = λ m a. a }) (record { quiet = quiet_first; due = due_first })

  -- ---- a mark: the open epoch is raised

  pub fits_raised : (before hs : List Held) → stream_fits f k i c o before hs ≡ true → stream_fits f k i c (suc o) before hs ≡ true
  unfolding stream_fits follows every
  fits_raised before [] w = refl
  fits_raised before (h ∷ hs) w =
      let r = first before h hs w in
      let n = r.place in
      rw (r.fits, n.from, le-leb h.epoch (suc o) (omega (arith, leb-true h.epoch o n.till)), n.rises, n.taken, n.late, n.flags, fits_raised (before ++ h ∷ []) hs r.rest)

  -- ---- any other entry, in the open epoch

  fits_snoc : (before hs : List Held) (h : Held) → stream_fits f k i c o before (hs ++ h ∷ []) ≡ (stream_fits f k i c o before hs && (entry_fits f k i h && follows c o (before ++ hs) (stage h.transaction (before ++ hs)) h))
  unfolding stream_fits
  fits_snoc before [] h = rw (append-nil before) (simp and-true)
  fits_snoc before (x ∷ hs) h = rw (fits_snoc (before ++ x ∷ []) hs h, append_assoc before (x ∷ []) hs) (simp and_assoc)

  fits_till : (before hs : List Held) → stream_fits f k i c o before hs ≡ true → all (λ g. leb g.epoch o) hs ≡ true
  unfolding all
  fits_till before [] w = refl
  fits_till before (h ∷ hs) w = let r = first before h hs w in rw (r.place.till, fits_till (before ++ h ∷ []) hs r.rest)

  pub fits_held : (hs : List Held) (e : Entry) → c < o → stream_fits f k i c o [] hs ≡ true → entry_fits f k i (hold e o) ≡ true → takes e.kind (stage e.transaction hs) ≡ true → stream_fits f k i c o [] (hs ++ hold e o ∷ []) ≡ true
  unfolding follows every hold
  fits_held hs e l w a t = fits_snoc [] hs (hold e o) ∙ rw (w, a, le-leb 1 o (omega arith), le-leb o o (omega arith), fits_till [] hs w, t, lt-ltb c o l, or-true (ltb e.kind CC))

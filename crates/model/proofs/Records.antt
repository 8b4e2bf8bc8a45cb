-- Each record shows the latest write or deletion, in stream order, by an installed transaction. Assumes nothing.
use Prim.Native.Nat.{ℕ, zero, suc, ◌≤◌, ◌<◌}
use mathlib.Core.Path.{◌≡◌, refl, sym, ap, ◌∙◌}
use mathlib.Core.Logic.{◌⊎◌, inl, inr, ◌≢◌}
use mathlib.Core.Bool.{Bool, true, false, not, ◌&&◌, ◌||◌, and-false, or-true}
use mathlib.Core.List.Memᴰ
use mathlib.Core.List.{List, ◌++◌, Memᴰ}
use native.Mathlib.Omega.{arith}
use native.Mathlib.Decide.{dec_le, dec_lt, ℕ_discrete}
use lib.Dec.{leb, eqb}
use borrow.Author.Tests.{leb-true, le-leb, eqb-true, eq-eqb}
use Rattle.model.specs.Lists.{any}
use Rattle.model.specs.Entry.{DELETE, P, CC, CP}
use Rattle.model.specs.Account.{Held, key, Record, Account}
use Rattle.model.specs.Closing.{upto, is, unflagged_p, Verdict, free, install, flag, stay, verdict, installs, flags, pieces, writes_to, after_writes, apply, settle, close, installed}
use Rattle.model.specs.Rules.{At}
use Rattle.model.proofs.Tests.{no_way, and_l, and_r, and, either, any_in, any_out}
use Rattle.model.proofs.Runs.{closes, closes_closed}
use Rattle.model.proofs.Working.{In, streams, Kept, Ordered, in_at, at_in, one_place}
use Rattle.model.proofs.Own.{of}
use Rattle.model.proofs.Survivors.{Thinned, thinned_filter, thinned_two}
use Rattle.model.proofs.Together.{to_is, upto_some, commits, Commits, commits_is, verdict_of, no_abort, verdict_cc, Decided, DecidedIn, commits_decided, commits_same, Installed, thinned_log, from_log, stays}
use Rattle.model.proofs.Once.{on_log, once}
use Rattle.model.proofs.WriteOrder.{after_none, after_filter, Pairs, pairs_append, picked, in_picked, picked_in, pairs_picked, Clear, apply_all}

-- ---- the account after m closes

-- the piece (i, t) has been installed by close m
unfoldable pub done : Account → ℕ → ℕ → ℕ → Bool
done a i zero t = false
done a i (suc m) t = done a i m t || any (λ u. eqb t u) (installed (closes m a) i)

pub done_installed : (a : Account) (i m t : ℕ) → done a i m t ≡ true → Installed a m i t
unfolding done
done_installed a i zero t e = no_way e
done_installed a i (suc m) t e = go (done_installed a i m t) (either (done a i m t) _ e)
  where
    go : (done a i m t ≡ true → Installed a m i t) → (done a i m t ≡ true) ⊎ (any (λ u. eqb t u) (installed (closes m a) i) ≡ true) → Installed a (suc m) i t
    go ih (inl d) = let r = ih d in (r.0, omega (arith, r.1), r.2)
    go ih (inr d) = let r = any_out (λ u. eqb t u) (installed (closes m a) i) d in (m, omega arith, any_in (λ u. eqb u t) r.1 (eq-eqb r.0 t (sym (eqb-true t r.0 r.2))))

pub installed_done : (a : Account) (i m t : ℕ) → Installed a m i t → done a i m t ≡ true
unfolding done
installed_done a i zero t x = absurd (omega (arith, x.1))
installed_done a i (suc m) t x = go x (dec_lt x.0 m) (installed_done a i m t)
  where
    go : (x : Installed a (suc m) i t) → Dec (x.0 < m) → (Installed a m i t → done a i m t ≡ true) → (done a i m t || any (λ u. eqb t u) (installed (closes m a) i)) ≡ true
    go (k, l, e) (yes b) ih = rw (ih (k, b, e))
    go (k, l, e) (no b) ih =
        let r = any_out (λ u. eqb u t) (installed (closes k a) i) e in
        let q : k ≡ m = omega arith in
        rw (← q, any_in (λ u. eqb t u) r.1 (eq-eqb t r.0 (sym (eqb-true r.0 t r.2)))) (or-true (done a i k t))

to_install : (w : Verdict) → installs w ≡ true → w ≡ install
to_install free e = no_way e
to_install install e = refl
to_install flag e = no_way e
to_install stay e = no_way e

to_flag_law : (w : Verdict) → flags w ≡ true → w ≡ flag
to_flag_law free e = no_way e
to_flag_law install e = no_way e
to_flag_law flag e = refl
to_flag_law stay e = no_way e

no_both : (w : Verdict) → w ≡ install → w ≡ flag → ⊥
no_both w p q = no_way (cc)

module _ (a : Account) (z : a.closed ≡ 0) (K : Kept (streams a)) (O : Ordered (streams a)) (i k : ℕ) where
  -- the writes of a transaction are in epochs up to its CC's
  write_epoch : {j q : ℕ} {f g : Held} → At f (streams a i) q → f.kind ≤ DELETE → In g (streams a j) → g.kind ≡ CC → f.transaction ≡ g.transaction → f.epoch ≤ g.epoch
  write_epoch {j} {q} {f} {g} x w y c t = go (O.then_p x y w c t)
    where
      here_too : {p : ℕ} → At g (streams a i) p → Dec (q ≤ p) → f.epoch ≤ g.epoch
      here_too b (yes l) = O.rising x b l
      here_too b (no l) = absurd (O.last b x (omega arith) (omega arith) (sym t))

      go : (i ≡ j) ⊎ ((p : ℕ) × (e : Held) × (q < p) × At e (streams a i) p × (e.kind ≡ P) × (e.transaction ≡ f.transaction)) → f.epoch ≤ g.epoch
      go (inl e) = let r : (p : ℕ) × At g (streams a i) p = rw e (in_at y) in here_too r.1 (dec_le q r.0)
      go (inr (p, e, l, b, ke, te)) = omega (arith, O.rising x b (omega arith), K.intime (at_in b) y ke c (te ∙ t))

  -- between a write of k by u and another's stands the CC or CP of u
  abbrev Between : ℕ → ℕ → ℕ → ℕ → Type 0
  Between u n q b = (r : ℕ) × (e : Held) × (r < q) × At e (streams a i) r × (e.transaction ≡ u) × Commits e × (n ≤ e.epoch) × (e.epoch ≤ b)

  between : {j p q : ℕ} {g h f : Held} → In g (streams a j) → g.kind ≡ CC → p < q → At h (streams a i) p → At f (streams a i) q
      → writes_to k h ≡ true → h.transaction ≡ g.transaction → writes_to k f ≡ true → f.transaction ≢ g.transaction → Between g.transaction g.epoch q f.epoch
  between {j} {p} {q} {g} {h} {f} y c l x b w t w' d =
      go (O.apart x b l (leb-true h.kind DELETE (and_l _ _ w)) (leb-true f.kind DELETE (and_l _ _ w'))
      (eqb-true (key h) k (and_r (leb h.kind DELETE) _ w) ∙ sym (eqb-true (key f) k (and_r (leb f.kind DELETE) _ w'))) (λ s. d (sym s ∙ t)))
    where
      kinds : (e : Held) → In e (streams a i) → CC ≤ e.kind → e.transaction ≡ g.transaction → Commits e
      kinds e v s u = cases (ℕ_discrete e.kind CC) (ℕ_discrete e.kind CP)
        where
          cases : Dec (e.kind ≡ CC) → Dec (e.kind ≡ CP) → Commits e
          cases (yes m) n = inl m
          cases (no m) (yes n) = inr n
          cases (no m) (no n) = absurd (K.kept v y (omega (arith, O.no_mark v)) c u)

      go : (r : ℕ) × (e : Held) × (p < r) × (r < q) × At e (streams a i) r × (CC ≤ e.kind) × (e.transaction ≡ h.transaction) → Between g.transaction g.epoch q f.epoch
      go (r, e, l₁, l₂, v, s, u) =
          let ks = kinds e (at_in v) s (u ∙ t) in
          let d = commits_decided K (at_in v) ks in
          (r, e, l₂, v, u ∙ t, ks, omega (arith, d.5, K.one d.2 y d.3 c (d.4 ∙ u ∙ t)), O.rising v b (omega arith))

  -- one that was installed by an earlier close, and one of a later epoch
  clear_earlier : {j j' : ℕ} {x u : Held} → In x (streams a j) → x.kind ≡ CC → In u (streams a j') → u.kind ≡ CC → x.epoch < u.epoch → Clear k (streams a i) x.transaction u.transaction
  clear_earlier {x = x} {u = u} yx cx yu cu l p q h f lt ah af wh th wf tf =
      let r = between yu cu lt ah af wh th wf (λ e. omega (arith, K.one yx yu cx cu (sym tf ∙ e))) in
      omega (arith, r.6, r.7, write_epoch af (leb-true f.kind DELETE (and_l _ _ wf)) yx cx tf)

  end_le : (e : Held) → Commits e → CC ≤ e.kind
  end_le e (inl p) = omega arith
  end_le e (inr p) = omega arith

  -- two with CC or CP, by the order of those
  clear_commits : {p q : ℕ} {e f : Held} → p < q → At e (streams a i) p → At f (streams a i) q → Commits e → Commits f → Clear k (streams a i) e.transaction f.transaction
  clear_commits {e = e} {f = f} l ae af ke kf p' q' h w lt ah aw wh th ww tw = go (commits_decided K (at_in af) kf)
    where
      go : Decided (streams a) f.epoch f.transaction → ⊥
      go (j, g, y, c, t, b) = ended (between y c lt ah aw wh (th ∙ sym t) ww (λ s. O.last ae af l (end_le e ke) (sym tw ∙ s ∙ t)))
        where
          ended : Between g.transaction g.epoch q' w.epoch → ⊥
          ended (r, e', l', v, u, d, b₁, b₂) = O.last ae aw (omega (arith, one_place O (end_le e' d) (end_le f kf) (u ∙ t) v af)) (end_le e ke) (sym tw)

  module _ (m : ℕ) where
    abbrev n : ℕ
    n = suc (closes m a).closed

    abbrev H : ℕ → List Held
    H = streams (closes m a)

    abbrev es : List Held
    es = upto n (H i)

    abbrev v : ℕ → Verdict
    v = verdict_of n H i

    n_suc : n ≡ suc m
    n_suc = omega (arith, closes_closed m a)

    thinned : Thinned es (streams a i)
    unfolding upto
    thinned = thinned_filter (λ h. leb h.epoch n) (thinned_log a i m)

    -- the writes of a transaction that is decided in the epoch that is closed are all there
    own_writes : (t : ℕ) → DecidedIn (streams a) (suc m) t → (y : Record) → after_writes (λ u. eqb u t) k es y ≡ after_writes (λ u. eqb u t) k (streams a i) y
    unfolding of upto
    own_writes t (j, g, x, c, q, e) y =
        after_filter (λ u. eqb u t) k (λ h. leb h.epoch n) (H i) looked_at_law y
        ∙ sym (own (H i)) ∙ ap (λ r. after_writes (λ u. eqb u t) k r y) same ∙ own (streams a i)
      where
        same : of t (H i) ≡ of t (streams a i)
        same = rw (← q) (stays a z K x c m (omega arith) i)

        own : (hs : List Held) → after_writes (λ u. eqb u t) k (of t hs) y ≡ after_writes (λ u. eqb u t) k hs y
        own hs = after_filter (λ u. eqb u t) k (λ h. eqb h.transaction t) hs (λ h b w. and_r (writes_to k h) _ w) y

        looked_at_law : (h : Held) → In h (H i) → (writes_to k h && eqb h.transaction t) ≡ true → leb h.epoch n ≡ true
        looked_at_law h b w =
            let r = from_log a m {i = i} b in
            let d : h.kind ≤ DELETE = leb-true h.kind DELETE (and_l _ _ (and_l (writes_to k h) _ w)) in
            le-leb h.epoch n (omega (arith, n_suc, r.2.epoch, write_epoch (in_at r.1).1 (omega (arith, r.2.kind)) x c (sym r.2.transaction ∙ eqb-true h.transaction t (and_r (writes_to k h) _ w) ∙ sym q)))

    -- with CC or CP in an epoch up to the one that is closed, it is installed
    verdict_end : {j : ℕ} {g e : Held} → In g (streams a j) → g.kind ≡ CC → g.epoch ≡ n → In e (streams a i) → e.epoch ≤ n → e.transaction ≡ g.transaction → Commits e
        → verdict_of n (streams a) i g.transaction ≡ install
    unfolding verdict
    verdict_end {j} {g} {e} x c q y l t (inl p) = verdict_cc (streams a) K x c n q i e y p t
    verdict_end {j} {g} {e} x c q y l t (inr p) =
        let u = O.after_p (in_at y).1 p in
        let w : any (unflagged_p g.transaction) (upto n (streams a i)) ≡ true =
        upto_some (unflagged_p g.transaction) n (at_in u.3) (omega (arith, K.intime (at_in u.3) x u.4 c (u.5 ∙ t))) (and (to_is u.1 u.4 (u.5 ∙ t)) (ap not (K.fresh (at_in u.3)))) in
        rw (no_abort (streams a) K x c n i, upto_some (is CP g.transaction) n y l (to_is e p t), w, or-true (any (is CC g.transaction) (upto n (streams a i))))

    -- any, and one that is flagged by the same close
    clear_flag : (x u : ℕ) → DecidedIn (streams a) (suc m) x → DecidedIn (streams a) (suc m) u → x ≢ u → v u ≡ flag → Clear k (streams a i) x u
    clear_flag x u (jx, gx, yx, cx, qx, ex) (ju, gu, yu, cu, qu, eu) d fl p q h w lt ah aw wh th ww tw =
        let r = between yu cu lt ah aw wh (th ∙ sym qu) ww (λ s. d (sym tw ∙ s ∙ qu)) in
        let b = write_epoch aw (leb-true w.kind DELETE (and_l _ _ ww)) yx cx (tw ∙ sym qx) in
        no_both (v u) (rw (← qu) (on_log a z K O yu cu m eu i ∙ verdict_end yu cu (omega (arith, n_suc)) (at_in r.3) (omega (arith, n_suc, r.7)) r.4 r.5)) fl

    abbrev E₁ : Held → Bool
    E₁ h = commits h && installs (v h.transaction)

    abbrev E₂ : Held → Bool
    E₂ h = eqb h.kind P && flags (v h.transaction)

    is_pieces : installed (closes m a) i ≡ picked E₁ es ++ picked E₂ es
    unfolding installed pieces picked
    is_pieces = refl

    mine : (t : ℕ) → Memᴰ t (installed (closes m a) i) → DecidedIn (streams a) (suc m) t
    mine t x = once a z K O m i t (any_in (λ u. eqb u t) x (eq-eqb t t refl))

    mine₁ : (t : ℕ) → Memᴰ t (picked E₁ es) → DecidedIn (streams a) (suc m) t
    mine₁ t x = mine t (rw is_pieces (Memᴰ.append_left (picked E₂ es) x))

    mine₂ : (t : ℕ) → Memᴰ t (picked E₂ es) → DecidedIn (streams a) (suc m) t
    mine₂ t x = mine t (rw is_pieces (Memᴰ.append_right (picked E₁ es) x))

    clear_pairs : Pairs (Clear k (streams a i)) (installed (closes m a) i)
    clear_pairs = rw is_pieces (pairs_append (Clear k (streams a i)) (picked E₁ es) (picked E₂ es)
        (pairs_picked (Clear k (streams a i)) E₁ es first)
        (pairs_picked (Clear k (streams a i)) E₂ es second) across)
      where
        is_p : (e : Held) → E₂ e ≡ true → e.kind ≡ P
        is_p e t = eqb-true e.kind P (and_l _ _ t)

        is_flag : (e : Held) → E₂ e ≡ true → v e.transaction ≡ flag
        is_flag e t = to_flag_law (v e.transaction) (and_r (eqb e.kind P) _ t)

        first : (p q : ℕ) (e f : Held) → p < q → At e es p → At f es q → E₁ e ≡ true → E₁ f ≡ true → Clear k (streams a i) e.transaction f.transaction
        first p q e f l ae af te tf p' q' h w lt ah aw wh th ww tw =
            let T = thinned_two thinned l ae af in
            clear_commits T.lt T.at_p T.at_q (commits_same T.like_p (commits_is e (and_l _ _ te))) (commits_same T.like_q (commits_is f (and_l _ _ tf)))
            p' q' h w lt ah aw wh (th ∙ T.like_q.transaction) ww (tw ∙ T.like_p.transaction)

        second : (p q : ℕ) (e f : Held) → p < q → At e es p → At f es q → E₂ e ≡ true → E₂ f ≡ true → Clear k (streams a i) e.transaction f.transaction
        second p q e f l ae af te tf =
            let T = thinned_two thinned l ae af in
            clear_flag e.transaction f.transaction (mine₂ e.transaction (picked_in E₂ ae te)) (mine₂ f.transaction (picked_in E₂ af tf))
            (λ s. O.one_p T.at_p T.at_q T.lt (sym T.like_p.kind ∙ is_p e te) (sym T.like_q.kind ∙ is_p f tf) (sym T.like_p.transaction ∙ s ∙ T.like_q.transaction))
            (is_flag f tf)

        across : (x u : ℕ) → Memᴰ x (picked E₁ es) → Memᴰ u (picked E₂ es) → Clear k (streams a i) x u
        across x u mx mu =
            let rx = in_picked E₁ es x mx in
            let ru = in_picked E₂ es u mu in
            let fu : v u ≡ flag = ap v ru.4 ∙ is_flag ru.1 ru.3 in
            clear_flag x u (mine₁ x mx) (mine₂ u mu)
            (λ s. no_both (v u) (ap v (sym s ∙ rx.4) ∙ to_install (v rx.1.transaction) (and_r (commits rx.1) _ rx.3)) fu) fu

  -- each record shows the latest write or deletion, in stream order, by an installed transaction
  pub records : (m : ℕ) → ((closes m a).at i).records k ≡ after_writes (done a i m) k (streams a i) ((a.at i).records k)
  unfolding closes close settle done installed
  records zero = sym (after_none (λ t. false) k (streams a i) (λ p h x. and-false (writes_to k h)) ((a.at i).records k))
  records (suc m) =
      ap (apply (installed (closes m a) i) k (es m)) (records m)
      ∙ apply_all k (streams a i) (es m) ((a.at i).records k) (done a i m) (installed (closes m a) i) (λ t x. own_writes m t (mine m t x)) clear (clear_pairs m)
    where
      clear : (x u : ℕ) → done a i m x ≡ true → Memᴰ u (installed (closes m a) i) → Clear k (streams a i) x u
      clear x u d y =
          let e = done_installed a i m x d in
          let r = once a z K O e.0 i x e.2 in
          let s = mine m u y in
          rw (← r.4, ← s.4) (clear_earlier r.2 r.3 s.2 s.3 (omega (arith, e.1, r.5, s.5)))

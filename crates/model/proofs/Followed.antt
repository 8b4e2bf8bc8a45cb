-- The entries of a run up to the mark of its last closed epoch keep the log rules in their working form, where the primary's whole streams keep the five rules. Assumes nothing.
use Prim.Native.Nat.{ℕ, suc, ◌≤◌, ◌<◌}
use mathlib.Core.Path.{◌≡◌, refl, sym, ap, ◌∙◌}
use mathlib.Core.Logic.{◌⊎◌, inl, inr}
use mathlib.Core.Bool.{Bool, true, false}
use mathlib.Core.List.{List, [], ◌∷◌, ◌++◌, append_assoc, append-nil}
use native.Mathlib.Omega.{arith}
use native.Mathlib.Decide.{dec_lt, ℕ_discrete}
use lib.Dec.{eqb}
use Rattle.std.specs.Prelude.{if◌then◌else◌}
use Rattle.model.specs.Entry.{is_mark, DELETE, P, CC, A}
use Rattle.model.specs.Account.{Held, Fragment, Account, fresh, empty}
use Rattle.model.specs.Taking.{hold, take, taken, stepped}
use Rattle.model.specs.Closing.{close, settle}
use Rattle.model.specs.Runs.{Step, taking, closing, run, Allowed, log, closings}
use Rattle.model.specs.Rules.{in_epochs, At, Stands, LogRules}
use Rattle.model.specs.Installed.{Follows}
use Rattle.model.specs.declared.Entry.{Entry}
use Rattle.model.proofs.Judged.{all_marked}
use Rattle.model.proofs.Runs.{take_list, take_all, closes, closes_closed, run_is_law, log_outside}
use Rattle.model.proofs.Prefix.{closes_epoch, closes_fragments}
use Rattle.model.proofs.Working.{In, Kept, Ordered, in_at, at_in}
use Rattle.model.proofs.Epochs.{epoch_after, InStream, in_stream, rising, at_below, at_whole, at_part, cut}
use Rattle.model.proofs.TakenLog.{Tabled, tabled}

-- ---- what taking makes of a fragment

pub take_list_held : (s : Fragment) (es : List Entry) → (take_list s es).held ≡ s.held ++ in_epochs s.counters.epoch es
unfolding take_list take stepped in_epochs
take_list_held s [] = sym (append-nil s.held)
take_list_held s (e ∷ es) = take_list_held (take s e) es ∙ go (is_mark e) refl
  where
    n : ℕ
    n = s.counters.epoch

    go : (b : Bool) → is_mark e ≡ b
        → (if b then s.held else s.held ++ hold e n ∷ []) ++ in_epochs (if b then suc n else n) es ≡ s.held ++ (if b then in_epochs (suc n) es else hold e n ∷ in_epochs n es)
    go true q = refl
    go false q = append_assoc s.held (hold e n ∷ []) (in_epochs n es)

pub take_list_epoch : (s : Fragment) (es : List Entry) → (take_list s es).counters.epoch ≡ epoch_after s.counters.epoch es
unfolding take_list take stepped epoch_after
take_list_epoch s [] = refl
take_list_epoch s (e ∷ es) = take_list_epoch (take s e) es

-- ---- every stream has taken the mark of the last closed epoch

abbrev Open : Account → Type 0
Open a = (i : ℕ) → i < a.fragments → a.closed < (a.at i).counters.epoch

open_taken : (e : Entry) (a : Account) → Open a → Open (taken e a)
unfolding taken take stepped
open_taken e a o i l = go (eqb e.fragment i) (is_mark e)
  where
    go : (b m : Bool) → a.closed < (if b then record { counters = stepped (a.at i).counters m; held = (take (a.at i) e).held; records = (a.at i).records } else a.at i).counters.epoch
    go true true = omega (arith, o i l)
    go true false = o i l
    go false m = o i l

open_run : (ss : List Step) (a : Account) → Allowed ss a → Open a → Open (run ss a)
unfolding Allowed run close settle
open_run [] a w o = o
open_run (taking e ∷ ss) a w o = open_run ss (taken e a) w.1 (open_taken e a o)
open_run (closing ∷ ss) a w o = open_run ss (close a) w.1 (all_marked a w.0)

module _ {number f k : ℕ} {ss : List Step} {wrote : ℕ → List Entry} (F : Follows number f k ss wrote) where
  abbrev pub start : Account
  start = fresh number f k

  -- the last closed epoch
  abbrev pub last : ℕ
  last = closings ss

  abbrev pub all : Account
  all = take_all (log ss) start

  marked : (i : ℕ) → i < f → last < epoch_after 1 (log ss i)
  unfolding fresh take_all
  marked i l =
      let o : Open (closes last all) = rw (run_is_law ss start F.allowed) at (open_run ss start F.allowed (λ j m. omega arith)) in
      omega (arith, o i (omega (arith, closes_fragments last all)), closes_closed last all, closes_epoch last all i, take_list_epoch empty (log ss i))

  -- the entries of a stream up to that mark
  pub record Part (i : ℕ) : Type 0 where
    pub first : List Entry
    pub rest : List Entry
    pub splits : log ss i ≡ first ++ rest
    pub ends : i < f → epoch_after 1 first ≡ suc last
    pub outside : f ≤ i → (first ≡ []) × (rest ≡ [])
    pub before : {h : Held} {p : ℕ} → At h (in_epochs 1 first) p → h.epoch ≤ last

  pub part : (i : ℕ) → Part i
  unfolding fresh in_epochs
  part i = go (dec_lt i f)
    where
      go : Dec (i < f) → Part i
      go (yes l) =
          let c = cut 1 last (log ss i) (omega arith) (marked i l) in
          record { first = c.first; rest = c.rest; splits = c.splits; ends = λ _. c.ends; outside = λ m. absurd (omega arith); before = c.before }
      go (no n) = record {
        first = [];
        rest = [];
        splits = log_outside ss start F.allowed i (omega arith);
        ends = λ l. absurd (n l);
        outside = λ _. (refl, refl);
        before = λ x. absurd (omega (arith, at_below x));
      }

  abbrev pub L : ℕ → List Held
  L i = in_epochs 1 (part i).first

  -- h stands among them
  pub record Taken (i p : ℕ) (h : Held) : Type 0 where
    pub at : At h (L i) p

  module _ (i : ℕ) (l : i < f) where
    abbrev more : List Entry
    more = (part i).rest ++ (F.first_part i l).rest

    whole : wrote i ≡ (part i).first ++ more
    whole = (F.first_part i l).splits ∙ ap (λ es. es ++ (F.first_part i l).rest) (part i).splits ∙ append_assoc (part i).first (part i).rest (F.first_part i l).rest

  -- what stands in a stream in an epoch that is closed is among them
  pub within : {i p : ℕ} {h : Held} → Stands f wrote i p h → h.epoch ≤ last → Taken i p h
  within {i} {p} {h} s e = record { at = at_part 1 (part i).first (more i s.fragment) (rw (whole i s.fragment) at s.at) (omega (arith, (part i).ends s.fragment)) }

  inside : {i p : ℕ} {h : Held} → Taken i p h → i < f
  unfolding in_epochs
  inside {i} x = go (dec_lt i f)
    where
      go : Dec (i < f) → i < f
      go (yes l) = l
      go (no n) = let e : (part i).first ≡ [] = ((part i).outside (omega arith)).0 in absurd (omega (arith, at_below (rw e at x.at)))

  pub stand : {i p : ℕ} {h : Held} → Taken i p h → Stands f wrote i p h
  stand {i} x = let l = inside x in record { fragment = l; at = rw (whole i l) (at_whole 1 (part i).first (more i l) x.at) }

  by : {i p : ℕ} {h : Held} → Taken i p h → h.epoch ≤ last
  by {i} x = (part i).before x.at

  spot : (i : ℕ) {h : Held} → In h (L i) → (p : ℕ) × Taken i p h
  spot i x = let r = in_at x in (r.0, record { at = r.1 })

  -- ---- the working form

  abbrev R : LogRules f wrote
  R = F.rules

  table : (i : ℕ) → Tabled i (in_epochs 1 (log ss i))
  table = tabled number f k ss F.allowed

  in_log : {i p : ℕ} {h : Held} → Taken i p h → At h (in_epochs 1 (log ss i)) p
  in_log {i} x = rw (part i).splits (at_whole 1 (part i).first (part i).rest x.at)

  kinds : {i p : ℕ} {h : Held} → Taken i p h → (1 ≤ h.kind) × (h.kind ≤ A)
  kinds {i} x = (table i).kinds (in_log x)

  of_stream : {i p : ℕ} {h : Held} → Taken i p h → InStream 1 h
  of_stream {i} x = in_stream 1 (part i).first x.at

  -- there is one CC of a transaction
  pub one_commit : {i j p q : ℕ} {h g : Held} → Stands f wrote i p h → Stands f wrote j q g → h.kind ≡ CC → g.kind ≡ CC → h.transaction ≡ g.transaction → h.epoch ≡ g.epoch
  one_commit {i} {j} {p} {q} {h} {g} x y c d t = go (R.coordinator_commits x (c, refl) ∙ ap R.coordinator_of t ∙ sym (R.coordinator_commits y (d, refl))) (dec_lt p q) (dec_lt q p)
    where
      go : i ≡ j → Dec (p < q) → Dec (q < p) → h.epoch ≡ g.epoch
      go e (yes l) r = absurd (R.nothing_follows (rw e at x) y l (omega arith, omega arith, t) refl)
      go e (no l) (yes r) = absurd (R.nothing_follows y (rw e at x) r (omega arith, omega arith, sym t) refl)
      go e (no l) (no r) =
          let x' : Stands f wrote j p h = rw e at x in
          omega (arith, rising 1 (wrote j) x'.at y.at (omega arith), rising 1 (wrote j) y.at x'.at (omega arith))

  abbrev PreparedAfter : ℕ → ℕ → ℕ → Type 0
  PreparedAfter i p t = (r : ℕ) × (e : Held) × (p < r) × Taken i r e × (e.kind ≡ P) × (e.transaction ≡ t)

  prepares : {i j p q : ℕ} {h g : Held} → Taken i p h → Taken j q g → h.kind ≤ DELETE → g.kind ≡ CC → h.transaction ≡ g.transaction → (i ≡ j) ⊎ PreparedAfter i p h.transaction
  prepares {i} {j} {p} {q} {h} {g} x y w c t = go (ℕ_discrete i j)
    where
      go : Dec (i ≡ j) → (i ≡ j) ⊎ PreparedAfter i p h.transaction
      go (yes e) = inl e
      go (no d) =
          let r = R.prepared_after (stand y) (c, refl) (stand x) ((kinds x).0, w, t) d in
          inr (r.0, r.1, r.2, within r.3 (omega (arith, R.prepared_by (stand y) (c, refl) r.3 r.4, by y)), r.4.0, r.4.1 ∙ sym t)

  pub kept : Kept L
  kept = record {
    fresh = λ {i} x. (of_stream (spot i x).1).unflagged;
    begun = λ {i} x. (of_stream (spot i x).1).from;
    names = λ {i} {j} x y p c t. R.prepare_names (stand (spot i x).1) (p, t) ∙ sym (R.coordinator_commits (stand (spot j y).1) (c, refl));
    one = λ {i} {j} x y c d t. one_commit (stand (spot i x).1) (stand (spot j y).1) c d t;
    intime = λ {i} {j} x y p c t. R.prepared_by (stand (spot j y).1) (c, refl) (stand (spot i x).1) (p, t);
    backed = λ {i} {h} x c. back h (by (spot i x).1) (R.commit_decided (stand (spot i x).1) (c, refl));
    kept = λ {i} {j} x y a c t. R.never_both (stand (spot j y).1) (c, refl) (stand (spot i x).1) (a, t);
  }
    where
      back : (h : Held) → h.epoch ≤ last → (j : ℕ) × (c : ℕ) × (g : Held) × Stands f wrote j c g × ((g.kind ≡ CC) × (g.transaction ≡ h.transaction)) × (g.epoch ≤ h.epoch)
          → (j : ℕ) × (g : Held) × In g (L j) × (g.kind ≡ CC) × (g.transaction ≡ h.transaction) × (g.epoch ≤ h.epoch)
      back h b (j, c, g, s, e, l) = (j, g, at_in (within s (omega arith)).at, e.0, e.1, l)

  pub ordered : Ordered L
  ordered = record {
    rising = λ {i} x y l. rising 1 (part i).first x y l;
    after_p = λ {i} {q} {h} x c. earlier i q h (record { at = x }) ((table i).after_p (in_log (record { at = x })) c);
    other = λ {i} x p. (table i).other (in_log (spot i x).1) p;
    no_mark = λ {i} x. (kinds (spot i x).1).1;
    one_p = λ {i} x y l p q t. R.one_prepare (here i x) (here i y) l (p, t) (q, refl);
    last = λ {i} x y l c t. R.nothing_follows (here i x) (here i y) l (c, (kinds {i = i} (record { at = x })).1, t) refl;
    then_p = λ {i} {j} {p} {h} x y w c t. plain i j p h.transaction (prepares {i = i} (record { at = x }) (spot j y).1 w c t);
    apart = λ {i} {p} {q} {h} {g} x y l w v e d.
        between i p q h.transaction g (record { at = y }) (R.key_kept (here i x) (here i y) l ((kinds {i = i} (record { at = x })).0, w, refl) ((kinds {i = i} (record { at = y })).0, v, refl) e d);
  }
    where
      here : (i : ℕ) {p : ℕ} {h : Held} → At h (L i) p → Stands f wrote i p h
      here i x = stand (record { at = x })

      plain : (i j p t : ℕ) → (i ≡ j) ⊎ PreparedAfter i p t → (i ≡ j) ⊎ ((r : ℕ) × (e : Held) × (p < r) × At e (L i) r × (e.kind ≡ P) × (e.transaction ≡ t))
      plain i j p t (inl e) = inl e
      plain i j p t (inr (r, e, l, x, k, q)) = inr (r, e, l, x.at, k, q)

      earlier : (i q : ℕ) (h : Held) → Taken i q h → (p : ℕ) × (g : Held) × (p < q) × At g (in_epochs 1 (log ss i)) p × (g.kind ≡ P) × (g.transaction ≡ h.transaction)
          → (p : ℕ) × (g : Held) × (p < q) × At g (L i) p × (g.kind ≡ P) × (g.transaction ≡ h.transaction)
      earlier i q h x (p, g, l, y, k, t) =
          (p, g, l, at_part 1 (part i).first (part i).rest (rw (part i).splits at y) (omega (arith, rising 1 (log ss i) y (in_log x) (omega arith), by x, (part i).ends (inside x))), k, t)

      between : (i p q t : ℕ) (g : Held) → Taken i q g → (r : ℕ) × (e : Held) × (p < r) × (r < q) × Stands f wrote i r e × ((CC ≤ e.kind) × (e.kind ≤ A) × (e.transaction ≡ t))
          → (r : ℕ) × (e : Held) × (p < r) × (r < q) × At e (L i) r × (CC ≤ e.kind) × (e.transaction ≡ t)
      between i p q t g y (r, e, l, m, s, w) = (r, e, l, m, (within s (omega (arith, rising 1 (wrote i) s.at (stand y).at (omega arith), by y))).at, w.0, w.2)

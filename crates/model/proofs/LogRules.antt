-- The second half of demand 3 for one account. Where a run follows streams that keep the five rules: a transaction is installed at all its fragments, in one close, or at none; a commit before the P or CC of an installed transaction is installed too; each record shows the latest write or deletion, in stream order, by an installed transaction. Assumes nothing.
use Prim.Native.Nat.{ℕ, suc, ◌+◌, ◌≤◌, ◌<◌}
use mathlib.Core.Path.{◌≡◌, refl, sym, ap, subst, ◌∙◌, fun_ext}
use mathlib.Core.Logic.{◌⊎◌, inl, inr}
use mathlib.Core.Bool.{Bool, true, false, ◌&&◌}
use mathlib.Core.List.{List, [], ◌∷◌, ◌++◌}
use native.Mathlib.Omega.{arith}
use native.Mathlib.Decide.{dec_lt, ℕ_discrete}
use lib.ListN.{length, get_or}
use borrow.Author.Tests.{leb-true}
use Rattle.model.specs.Lists.{any}
use Rattle.model.specs.Entry.{PUT, DELETE, P, CC, CP}
use Rattle.model.specs.Account.{Held, Record, absent, Account, empty, fresh}
use Rattle.model.specs.Closing.{Piece, listed, writes_to, after_writes}
use Rattle.model.specs.Runs.{Step, run, lists, log}
use Rattle.model.specs.Rules.{in_epochs, At, Stands, Is, LogRules}
use Rattle.model.specs.Installed.{has_piece, listed_at, is_installed, Follows}
use Rattle.model.specs.declared.Entry.{Entry}
use Rattle.model.proofs.Tests.{no_way, and_l, and_r}
use Rattle.model.proofs.Runs.{take_all, closes, closes_lists, run_is_law, lists_is}
use Rattle.model.proofs.Prefix.{take_all_append, take_list_records, Marked, installed_prefix, records_prefix, closes_fragments}
use Rattle.model.proofs.Working.{In, streams, Kept, Ordered, in_at, at_in}
use Rattle.model.proofs.Together.{Installed, together}
use Rattle.model.proofs.Once.{once}
use Rattle.model.proofs.Earlier.{earlier}
use Rattle.model.proofs.Records.{done, done_installed, installed_done, records}
use Rattle.model.proofs.WriteOrder.{after_none}
use Rattle.model.proofs.Epochs.{epoch_after, in_stream, rising, in_epochs_append, at_whole, at_second}
use Rattle.model.proofs.TakenLog.{tabled}
use Rattle.model.proofs.Followed.{take_list_held, take_list_epoch, start, last, all, part, L, Taken, within, stand, one_commit, kept, ordered}
use Rattle.model.proofs.Listed.{Lists, piece_in, piece_out, list_of, list_past, installed_in, installed_out}

no_piece : (i t : ℕ) {X : Type 0} → has_piece i t [] ≡ true → X
unfolding has_piece any
no_piece i t e = no_way e

after_append : (D : ℕ → Bool) (k : ℕ) (xs ys : List Held) (x : Record) → after_writes D k (xs ++ ys) x ≡ after_writes D k ys (after_writes D k xs x)
unfolding after_writes
after_append D k [] ys x = refl
after_append D k (h ∷ hs) ys x = after_append D k hs ys _

module _ {number f k : ℕ} {ss : List Step} {wrote : ℕ → List Entry} (F : Follows number f k ss wrote) where
  -- ---- the account of the entries up to the mark of the last closed epoch

  abbrev m : ℕ
  m = last F

  abbrev first : ℕ → List Entry
  first i = (part F i).first

  abbrev rest : ℕ → List Entry
  rest i = (part F i).rest

  abbrev settled : Account
  settled = take_all first (fresh number f k)

  all_is : all F ≡ take_all rest settled
  all_is = ap (λ es. take_all es (start F)) (fun_ext λ i. (part F i).splits) ∙ take_all_append first rest (start F)

  none_closed : settled.closed ≡ 0
  unfolding take_all fresh
  none_closed = refl

  held_is : streams settled ≡ L F
  unfolding take_all fresh
  held_is = fun_ext λ i. take_list_held empty (first i)

  K : Kept (streams settled)
  K = rw held_is (kept F)

  O : Ordered (streams settled)
  O = rw held_is (ordered F)

  marked : Marked settled m
  unfolding take_all fresh
  marked i l = omega (arith, take_list_epoch empty (first i), (part F i).ends l)

  outside : (j : ℕ) → settled.fragments ≤ j → rest j ≡ []
  unfolding take_all fresh
  outside j l = ((part F j).outside l).1

  abbrev told : List (List Piece)
  told = lists ss (fresh number f k)

  told_is : told ≡ closes_lists m (take_all rest settled)
  told_is = lists_is ss (start F) F.allowed ∙ ap (closes_lists m) all_is

  same_fragments : (c : ℕ) → (closes c (take_all rest settled)).fragments ≡ f
  unfolding take_all fresh
  same_fragments c = closes_fragments c (take_all rest settled)

  -- close c lists the piece exactly where the settled account's does
  listed_out : (c i t : ℕ) → c < m → has_piece i t (listed (closes c (take_all rest settled))) ≡ true → (i < f) × Lists (closes c settled) i t
  listed_out c i t l e =
      let r = piece_out (closes c (take_all rest settled)) i t e in
      (omega (arith, r.0, same_fragments c), rw (installed_prefix settled rest outside c (λ j b. omega (arith, marked j b)) i) at r.1)

  listed_in_law : (c i t : ℕ) → c < m → i < f → Lists (closes c settled) i t → has_piece i t (listed (closes c (take_all rest settled))) ≡ true
  listed_in_law c i t l b e = piece_in (closes c (take_all rest settled)) i t (omega (arith, same_fragments c)) (rw (installed_prefix settled rest outside c (λ j b. omega (arith, marked j b)) i) e)

  told_out : (c i t : ℕ) → listed_at told c i t ≡ true → (c < m) × (i < f) × Lists (closes c settled) i t
  told_out c i t e = go (dec_lt c m)
    where
      e' : has_piece i t (get_or (closes_lists m (take_all rest settled)) c []) ≡ true
      e' = rw told_is at e

      go : Dec (c < m) → (c < m) × (i < f) × Lists (closes c settled) i t
      go (yes l) = let r = listed_out c i t l (rw (list_of m c (take_all rest settled) l) at e') in (l, r.0, r.1)
      go (no n) = no_piece i t (rw (list_past m c (take_all rest settled) (omega arith)) at e')

  told_in : (c i t : ℕ) → c < m → i < f → Lists (closes c settled) i t → listed_at told c i t ≡ true
  told_in c i t l b e = rw (told_is, list_of m c (take_all rest settled) l) (listed_in_law c i t l b e)

  -- installed by the run, and by the settled account's closes
  installed_some : (i t : ℕ) → is_installed told i t ≡ true → (i < f) × Installed settled m i t
  installed_some i t e =
      let r = installed_out m i t (take_all rest settled) (rw told_is at e) in
      let s = listed_out r.0 i t r.1 r.2 in
      (s.0, (r.0, r.1, s.1))

  some_installed : (i t : ℕ) → i < f → Installed settled m i t → is_installed told i t ≡ true
  some_installed i t b (c, l, e) = rw told_is (installed_in m i t c (take_all rest settled) l (listed_in_law c i t l b e))

  -- ---- the three sentences

  abbrev R : LogRules f wrote
  R = F.rules

  spot : (i : ℕ) {h : Held} → In h (streams settled i) → (p : ℕ) × Taken F i p h
  spot i {h} x = let y : In h (L F i) = rw (ap (λ s. s i) held_is) at x in let r = in_at y in (r.0, record { at = r.1 })

  at_settled : {i p : ℕ} {h : Held} → Taken F i p h → At h (streams settled i) p
  at_settled {i} x = rw (ap (λ s. s i) held_is) x.at

  -- CC(t) stands in stream j, in epoch n
  pub record Commit (n t : ℕ) : Type 0 where
    j : ℕ
    q : ℕ
    g : Held
    taken : Taken F j q g
    kind : g.kind ≡ CC
    transaction : g.transaction ≡ t
    epoch : g.epoch ≡ n

  -- the CC of a listed transaction stands in the epoch of the close that lists it
  decided : (c i t : ℕ) → Lists (closes c settled) i t → Commit (suc c) t
  decided c i t e =
      let r = once settled none_closed K O c i t e in
      let w = spot r.0 r.2 in
      record { j = r.0; q = w.0; g = r.1; taken = w.1; kind = r.3; transaction = r.4; epoch = r.5 }

  -- with P or CC of t in the stream, up to the mark of the last closed epoch
  listed_with : (c t : ℕ) → Commit (suc c) t → {i p : ℕ} {h : Held} → Taken F i p h → h.transaction ≡ t → (h.kind ≡ P) ⊎ (h.kind ≡ CC) → Lists (closes c settled) i t
  listed_with c t C {i} {p} {h} x e d =
      rw C.transaction at (together settled none_closed K (at_in (at_settled C.taken)) C.kind c C.epoch i h (at_in (at_settled x)) (e ∙ sym C.transaction) d)

  -- T is installed at all its fragments, in one close, or at none: a fragment of T is one where it has a put, a delete, P or CC
  pub all_fragments : (c i t : ℕ) → listed_at told c i t ≡ true → (j p : ℕ) (h : Held) → Stands f wrote j p h → PUT ≤ h.kind → h.kind ≤ CC → h.transaction ≡ t → listed_at told c j t ≡ true
  all_fragments c i t e j p h s lo hi q = told_in c j t w.0 s.fragment (go (dec_lt DELETE h.kind) (dec_lt P h.kind))
    where
      w : (c < m) × (i < f) × Lists (closes c settled) i t
      w = told_out c i t e

      C : Commit (suc c) t
      C = decided c i t w.2

      commit : Stands f wrote C.j C.q C.g
      commit = stand F C.taken

      is_commit : Is f wrote CC t C.g
      is_commit = (C.kind, C.transaction)

      prepared : {q : ℕ} (g : Held) → Stands f wrote j q g → Is f wrote P t g → Lists (closes c settled) j t
      prepared g x d = listed_with c t C (within F x (omega (arith, R.prepared_by commit is_commit x d, C.epoch, w.0))) d.1 (inl d.0)

      wrote_there : Dec (j ≡ C.j) → h.kind ≤ DELETE → Lists (closes c settled) j t
      wrote_there (yes y) l = rw y (listed_with c t C C.taken C.transaction (inr C.kind))
      wrote_there (no n) l = let r = R.prepared_after commit is_commit s (lo, l, q) n in prepared r.1 r.3 r.4

      go : Dec (DELETE < h.kind) → Dec (P < h.kind) → Lists (closes c settled) j t
      go (no l) z = wrote_there (ℕ_discrete j C.j) (omega arith)
      go (yes l) (no z) = prepared h s (omega arith, q)
      go (yes l) (yes z) =
          let y : j ≡ C.j = R.coordinator_commits s (omega arith, q) ∙ sym (R.coordinator_commits commit is_commit) in
          rw y (listed_with c t C C.taken C.transaction (inr C.kind))

  -- no other close lists it again
  pub in_one_close : (c d i j t : ℕ) → listed_at told c i t ≡ true → listed_at told d j t ≡ true → c ≡ d
  in_one_close c d i j t x y =
      let C = decided c i t (told_out c i t x).2 in
      let D = decided d j t (told_out d j t y).2 in
      omega (arith, K.one (at_in (at_settled C.taken)) (at_in (at_settled D.taken)) C.kind D.kind (C.transaction ∙ sym D.transaction), C.epoch, D.epoch)

  -- a commit standing in a stream before the prepare or coordinator commit of an installed transaction is installed too
  pub earlier_commit : (i p q j t u : ℕ) (e h : Held) → Stands f wrote i p e → Stands f wrote i q h → p < q → Is f wrote CC u e ⊎ Is f wrote CP u e → Is f wrote P t h ⊎ Is f wrote CC t h
      → is_installed told j t ≡ true → is_installed told i u ≡ true
  earlier_commit i p q j t u e h x y l b d v = some_installed i u x.fragment (go (installed_some j t v).1)
    where
      commits : Is f wrote CC u e ⊎ Is f wrote CP u e → ((e.kind ≡ CC) ⊎ (e.kind ≡ CP)) × (e.transaction ≡ u)
      commits (inl z) = (inl z.0, z.1)
      commits (inr z) = (inr z.0, z.1)

      decides : Is f wrote P t h ⊎ Is f wrote CC t h → ((h.kind ≡ P) ⊎ (h.kind ≡ CC)) × (h.transaction ≡ t)
      decides (inl z) = (inl z.0, z.1)
      decides (inr z) = (inr z.0, z.1)

      go : Installed settled m j t → Installed settled m i u
      go (c, z, w) = rw (commits b).1 at (earlier settled none_closed K O m i j p q e h (at_settled (within F x (omega (arith, up, late d)))) (at_settled (within F y (late d))) l (commits b).0 (decides d).0 (rw (← (decides d).1) at installed_t))
        where
          installed_t : Installed settled m j t
          installed_t = (c, z, w)

          C : Commit (suc c) t
          C = decided c j t w

          up : e.epoch ≤ h.epoch
          up = rising 1 (wrote i) x.at y.at (omega arith)

          late : Is f wrote P t h ⊎ Is f wrote CC t h → h.epoch ≤ m
          late (inl r) = omega (arith, R.prepared_by (stand F C.taken) (C.kind, C.transaction) y r, C.epoch)
          late (inr r) = omega (arith, one_commit F y (stand F C.taken) r.0 C.kind (r.1 ∙ sym C.transaction), C.epoch)

  -- each record shows the latest write or deletion, in stream order, by an installed transaction

  late_in_log : (i p : ℕ) (h : Held) → At h (in_epochs (epoch_after 1 (first i)) (rest i)) p → At h (in_epochs 1 (log ss i)) (length (in_epochs 1 (first i)) + p)
  late_in_log i p h x = rw ((part F i).splits, in_epochs_append 1 (first i) (rest i)) (at_second (in_epochs 1 (first i)) x)

  -- what an installed transaction writes stands in an epoch that is closed
  written_by_law : {i p : ℕ} {h : Held} → Stands f wrote i p h → PUT ≤ h.kind → h.kind ≤ DELETE → is_installed told i h.transaction ≡ true → h.epoch ≤ m
  written_by_law {i} {p} {h} s lo hi e = go (ℕ_discrete i C.j)
    where
      by : Installed settled m i h.transaction
      by = (installed_some i h.transaction e).1

      C : Commit (suc by.0) h.transaction
      C = decided by.0 i h.transaction by.2

      commit : Stands f wrote C.j C.q C.g
      commit = stand F C.taken

      go : Dec (i ≡ C.j) → h.epoch ≤ m
      go (yes q) = place (dec_lt C.q p)
        where
          here' : Stands f wrote i C.q C.g
          here' = subst (λ j. Stands f wrote j C.q C.g) (sym q) commit

          place : Dec (C.q < p) → h.epoch ≤ m
          place (yes b) = absurd (R.nothing_follows here' s b (omega (arith, C.kind), omega (arith, C.kind), C.transaction) refl)
          place (no b) = omega (arith, rising 1 (wrote i) s.at here'.at (omega arith), C.epoch, by.1)
      go (no q) =
          let r = R.prepared_after commit (C.kind, C.transaction) s (lo, hi, refl) q in
          omega (arith, R.prepared_by commit (C.kind, C.transaction) r.3 r.4, rising 1 (wrote i) s.at r.3.at (omega (arith, r.2)), C.epoch, by.1)

  -- so it was taken
  pub written_taken : {i p : ℕ} {h : Held} → Stands f wrote i p h → PUT ≤ h.kind → h.kind ≤ DELETE → is_installed told i h.transaction ≡ true → At h (in_epochs 1 (log ss i)) p
  written_taken {i} s lo hi e = rw (part F i).splits (at_whole 1 (first i) (rest i) (within F s (written_by_law s lo hi e)).at)

  -- and no installed transaction writes after the mark of the last closed epoch
  none_later : (i : ℕ) → i < f → (p : ℕ) (h : Held) → At h (in_epochs (epoch_after 1 (first i)) (rest i)) p → PUT ≤ h.kind → h.kind ≤ DELETE → is_installed told i h.transaction ≡ true → ⊥
  none_later i l p h x lo hi e = omega (arith, written_by_law there' lo hi e, (in_stream (epoch_after 1 (first i)) (rest i) x).from, (part F i).ends l)
    where
      there' : Stands f wrote i (length (in_epochs 1 (first i)) + p) h
      there' = record { fragment = l; at = rw (F.first_part i l).splits (at_whole 1 (log ss i) (F.first_part i l).rest (late_in_log i p h x)) }

  same_test : (i : ℕ) → i < f → done settled i m ≡ is_installed told i
  same_test i l = fun_ext λ t. alike _ _ (λ e. some_installed i t l (done_installed settled i m t e)) (λ e. installed_done settled i m t (installed_some i t e).1)
    where
      alike : (a b : Bool) → (a ≡ true → b ≡ true) → (b ≡ true → a ≡ true) → a ≡ b
      alike true b p q = sym (p refl)
      alike false true p q = q refl
      alike false false p q = refl

  start_absent : (i key : ℕ) → (settled.at i).records key ≡ absent
  unfolding take_all fresh
  start_absent i key = ap (λ r. r key) (take_list_records empty (first i))

  pub latest_write : (i key : ℕ) → i < f → ((run ss (fresh number f k)).at i).records key ≡ after_writes (is_installed told i) key (in_epochs 1 (log ss i)) absent
  latest_write i key l =
      ap (λ a. (a.at i).records key) (run_is_law ss (start F) F.allowed ∙ ap (closes m) all_is)
      ∙ ap (λ r. r key) (records_prefix settled rest outside m marked i)
      ∙ records settled none_closed K O i key m
      ∙ rw (start_absent i key, same_test i l, ap (λ s. s i) held_is, (part F i).splits, in_epochs_append 1 (first i) (rest i))
      (sym (after_append (is_installed told i) key (in_epochs 1 (first i)) (in_epochs (epoch_after 1 (first i)) (rest i)) absent ∙ after_none (is_installed told i) key (in_epochs (epoch_after 1 (first i)) (rest i)) none _))
    where
      none : (p : ℕ) (h : Held) → At h (in_epochs (epoch_after 1 (first i)) (rest i)) p → (writes_to key h && is_installed told i h.transaction) ≡ false
      none p h x = go (writes_to key h && is_installed told i h.transaction) refl
        where
          low : PUT ≤ h.kind
          low = ((tabled number f k ss F.allowed i).kinds (late_in_log i p h x)).0

          go : (b : Bool) → (writes_to key h && is_installed told i h.transaction) ≡ b → (writes_to key h && is_installed told i h.transaction) ≡ false
          go false e = e
          go true e = absurd (none_later i l p h x low (leb-true h.kind DELETE (and_l _ _ (and_l (writes_to key h) _ e))) (and_r (writes_to key h) _ e))

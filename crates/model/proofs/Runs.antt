-- Any allowed order of entries and closes ends where all the entries and then the closes end, and its closes give the same lists. Assumes nothing.
use Prim.Native.Nat.{ℕ, zero, suc, ◌+◌, ◌≤◌, ◌<◌}
use mathlib.Core.Path.{◌≡◌, refl, sym, ap, ◌∙◌, fun_ext}
use mathlib.Core.Bool.{Bool, true, false}
use mathlib.Core.List.{List, [], ◌∷◌, ◌++◌, map, append_assoc}
use native.Mathlib.Omega.{arith}
use native.Mathlib.Decide.{dec_lt}
use lib.Dec.{eqb}
use borrow.Author.Tests.{lt-leb, ne_eqb}
use Rattle.std.specs.Prelude.{if◌then◌else◌}
use Rattle.model.specs.Lists.{filter, any, upward}
use Rattle.model.specs.Entry.{CC, is_mark}
use Rattle.model.specs.Account.{Held, Fragment, Account}
use Rattle.model.specs.Taking.{stepped, hold, take, taken}
use Rattle.model.specs.Closing.{upto, is, Verdict, survivors, settle, committed, close, installed, Piece, listed}
use Rattle.model.specs.Runs.{Step, taking, closing, run, lists, Allowed, log, closings}
use Rattle.model.specs.declared.Entry.{Entry}
use Rattle.model.proofs.Judged.{taken_facts, all_marked}

-- ---- all entries first, stream by stream, and then all closes

unfoldable pub take_list : Fragment → List Entry → Fragment
take_list s [] = s
take_list s (e ∷ es) = take_list (take s e) es

unfoldable pub take_all : (ℕ → List Entry) → Account → Account
take_all es a = record { number = a.number; fragments = a.fragments; keys = a.keys; closed = a.closed; at = λ j. take_list (a.at j) (es j) }

unfoldable pub closes : ℕ → Account → Account
closes zero a = a
closes (suc m) a = close (closes m a)

unfoldable pub closes_lists : ℕ → Account → List (List Piece)
closes_lists zero a = []
closes_lists (suc m) a = listed a ∷ closes_lists m (close a)

-- every stream has taken the mark of the epoch after the last closed one
abbrev pub Ready : Account → Type 0
Ready a = (i : ℕ) → i < a.fragments → suc a.closed < (a.at i).counters.epoch

-- ---- an entry of a later epoch

upto_later : (n : ℕ) (hs : List Held) (h : Held) → n < h.epoch → upto n (hs ++ h ∷ []) ≡ upto n hs
unfolding upto filter
upto_later n [] h l = rw lt-leb
upto_later n (x ∷ hs) h l = rw (upto_later n hs h l)

survivors_later : (n : ℕ) (v : ℕ → Verdict) (hs : List Held) (h : Held) → n < h.epoch → survivors n v (hs ++ h ∷ []) ≡ survivors n v hs ++ h ∷ []
unfolding survivors
survivors_later n v [] h l = rw lt-leb
survivors_later n v (x ∷ hs) h l = rw (survivors_later n v hs h l, append_assoc)

settle_take : (n : ℕ) (d : ℕ → ℕ → Bool) (s : Fragment) (e : Entry) → n < s.counters.epoch → settle n d (take s e) ≡ take (settle n d s) e
unfolding settle take hold
settle_take n d s e l = go (is_mark e) refl
  where
    go : (b : Bool) → is_mark e ≡ b → settle n d (take s e) ≡ take (settle n d s) e
    go true q = rw q
    go false q = rw (q, upto_later n s.held (hold e s.counters.epoch) l, survivors_later n _ s.held (hold e s.counters.epoch) l)

-- the epoch does not fall
take_epoch : (s : Fragment) (e : Entry) → s.counters.epoch ≤ (take s e).counters.epoch
unfolding take stepped
take_epoch s e = go (is_mark e)
  where
    go : (b : Bool) → s.counters.epoch ≤ (if b then suc s.counters.epoch else s.counters.epoch)
    go true = omega arith
    go false = omega arith

upto_take : (n : ℕ) (s : Fragment) (e : Entry) → n < s.counters.epoch → upto n (take s e).held ≡ upto n s.held
unfolding take hold
upto_take n s e l = go (is_mark e)
  where
    go : (b : Bool) → upto n (if b then s.held else s.held ++ hold e s.counters.epoch ∷ []) ≡ upto n s.held
    go true = refl
    go false = upto_later n s.held (hold e s.counters.epoch) l

-- ---- many entries

upto_takes : (n : ℕ) (s : Fragment) (es : List Entry) → n < s.counters.epoch → upto n (take_list s es).held ≡ upto n s.held
unfolding take_list
upto_takes n s [] l = refl
upto_takes n s (e ∷ es) l = upto_takes n (take s e) es (omega (arith, take_epoch s e)) ∙ upto_take n s e l

settle_takes : (n : ℕ) (d : ℕ → ℕ → Bool) (s : Fragment) (es : List Entry) → n < s.counters.epoch → settle n d (take_list s es) ≡ take_list (settle n d s) es
unfolding take_list
settle_takes n d s [] l = refl
settle_takes n d s (e ∷ es) l = settle_takes n d (take s e) es (omega (arith, take_epoch s e)) ∙ ap (λ r. take_list r es) (settle_take n d s e l)

-- ---- a close among the takes

module _ (a : Account) (es : ℕ → List Entry) (r : Ready a) (o : (j : ℕ) → a.fragments ≤ j → es j ≡ []) where
  -- a stream is a fragment's, or takes nothing
  each : (F : List Entry → Type 0) (j : ℕ) → F [] → (j < a.fragments → F (es j)) → F (es j)
  each F j n f = go (dec_lt j a.fragments)
    where
      go : Dec (j < a.fragments) → F (es j)
      go (yes l) = f l
      go (no k) = rw (o j (omega arith)) n

  same_upto : (j : ℕ) → upto (suc a.closed) (take_list (a.at j) (es j)).held ≡ upto (suc a.closed) (a.at j).held
  unfolding take_list
  same_upto j = each (λ fs. upto (suc a.closed) (take_list (a.at j) fs).held ≡ upto (suc a.closed) (a.at j).held) j refl (λ l. upto_takes (suc a.closed) (a.at j) (es j) (r j l))

  same_settle : (d : ℕ → ℕ → Bool) (j : ℕ) → take_list (settle (suc a.closed) d (a.at j)) (es j) ≡ settle (suc a.closed) d (take_list (a.at j) (es j))
  unfolding take_list
  same_settle d j = each (λ fs. take_list (settle (suc a.closed) d (a.at j)) fs ≡ settle (suc a.closed) d (take_list (a.at j) fs)) j refl (λ l. sym (settle_takes (suc a.closed) d (a.at j) (es j) (r j l)))

  same_committed : committed (suc a.closed) (λ c. ((take_all es a).at c).held) ≡ committed (suc a.closed) (λ c. (a.at c).held)
  unfolding committed take_all
  same_committed = fun_ext λ c. fun_ext λ t. ap (any (is CC t)) (same_upto c)

  pub close_take_all : take_all es (close a) ≡ close (take_all es a)
  unfolding close take_all
  close_take_all = rw same_committed (ap (λ f. record { number = a.number; fragments = a.fragments; keys = a.keys; closed = suc a.closed; at = f }) (fun_ext (same_settle (committed (suc a.closed) (λ c. (a.at c).held)))))

  pub same_installed : (i : ℕ) → installed (take_all es a) i ≡ installed a i
  unfolding installed take_all
  same_installed i = rw (same_committed, same_upto i)

  listed_take_all : listed (take_all es a) ≡ listed a
  unfolding listed take_all
  listed_take_all = ap (λ p. upward a.fragments 0 (λ i. map (λ t. record { fragment = i; transaction = t }) (p i))) (fun_ext same_installed)

-- ---- runs

pub log_outside : (ss : List Step) (a : Account) → Allowed ss a → (j : ℕ) → a.fragments ≤ j → log ss j ≡ []
unfolding Allowed log taken close
log_outside [] a l j h = refl
log_outside (taking e ∷ ss) a l j h = rw (ne_eqb e.fragment j (λ q. omega (arith, (taken_facts a e l.0).fragment))) (log_outside ss (taken e a) l.1 j h)
log_outside (closing ∷ ss) a l j h = log_outside ss (close a) l.1 j h

-- one entry, and then those of its log
take_all_log : (e : Entry) (ss : List Step) (a : Account) → take_all (log ss) (taken e a) ≡ take_all (log (taking e ∷ ss)) a
unfolding take_all taken log take_list
take_all_log e ss a = ap (λ f. record { number = a.number; fragments = a.fragments; keys = a.keys; closed = a.closed; at = f }) (fun_ext λ j. go j (eqb e.fragment j))
  where
    go : (j : ℕ) (b : Bool) → take_list (if b then take (a.at j) e else a.at j) (log ss j) ≡ take_list (a.at j) (if b then e ∷ log ss j else log ss j)
    go j true = refl
    go j false = refl

pub closes_closed : (m : ℕ) (a : Account) → (closes m a).closed ≡ a.closed + m
unfolding closes close
closes_closed zero a = omega arith
closes_closed (suc m) a = omega (arith, closes_closed m a)

pub closes_front : (m : ℕ) (a : Account) → closes m (close a) ≡ close (closes m a)
unfolding closes
closes_front zero a = refl
closes_front (suc m) a = ap close (closes_front m a)

pub run_is_law : (ss : List Step) (a : Account) → Allowed ss a → run ss a ≡ closes (closings ss) (take_all (log ss) a)
unfolding run closes closings Allowed log
run_is_law [] a l = unfold take_all take_list log in refl
run_is_law (taking e ∷ ss) a l = run_is_law ss (taken e a) l.1 ∙ ap (closes (closings ss)) (take_all_log e ss a)
run_is_law (closing ∷ ss) a l = run_is_law ss (close a) l.1 ∙ ap (closes (closings ss)) (close_take_all a (log ss) (all_marked a l.0) (log_outside (closing ∷ ss) a l)) ∙ closes_front (closings ss) (take_all (log ss) a)

pub lists_is : (ss : List Step) (a : Account) → Allowed ss a → lists ss a ≡ closes_lists (closings ss) (take_all (log ss) a)
unfolding lists closes_lists closings Allowed log
lists_is [] a l = refl
lists_is (taking e ∷ ss) a l = lists_is ss (taken e a) l.1 ∙ ap (closes_lists (closings ss)) (take_all_log e ss a)
lists_is (closing ∷ ss) a l =
    let o : (j : ℕ) → a.fragments ≤ j → log ss j ≡ [] = log_outside (closing ∷ ss) a l in
    rw (lists_is ss (close a) l.1, close_take_all a (log ss) (all_marked a l.0) o, listed_take_all a (log ss) (all_marked a l.0) o)

-- two runs with the same entries in each stream, and as many closes
module _ (ss tt : List Step) (a : Account) (l : Allowed ss a) (m : Allowed tt a) (e : (j : ℕ) → log ss j ≡ log tt j) (c : closings ss ≡ closings tt) where
  pub same_runs : run ss a ≡ run tt a
  same_runs = run_is_law ss a l ∙ (rw (c, fun_ext e)) ∙ sym (run_is_law tt a m)

  pub same_lists : lists ss a ≡ lists tt a
  same_lists = lists_is ss a l ∙ (rw (c, fun_ext e)) ∙ sym (lists_is tt a m)

-- The second half of demand 3 over runs of calls, of what the closes listed and the reads are answered: where the primary kept the five rules, each transaction is installed at all its fragments, in one close, or at none; a commit standing in a stream before the P or CC of an installed transaction is installed too; and each record shows the latest write or deletion, in stream order, by an installed transaction. Assumes nothing.
use Prim.Native.Nat.{ℕ, zero, suc, ◌<◌, ◌≤◌}
use mathlib.Core.Path.{◌≡◌, refl, sym, ap, ◌∙◌}
use mathlib.Core.Logic.{◌⊎◌}
use mathlib.Core.Bool.{Bool, true, false, ◌&&◌}
use mathlib.Core.List.{List, [], ◌∷◌}
use native.Mathlib.Omega.{arith}
use lib.Dec.{leb}
use borrow.Author.Tests.{leb-true, eqb-true, le-leb, eq-eqb}
use Rattle.std.specs.Prelude.{if◌then◌else◌, Ok}
use Rattle.model.specs.Entry.{PUT, DELETE, P, CC, CP}
use Rattle.model.specs.Account.{Held, key, Record, absent, fresh}
use Rattle.model.specs.Closing.{writes_to, written, after_writes}
use Rattle.model.specs.Runs.{run}
use Rattle.model.specs.Rules.{in_epochs, At, here, there, Stands, Is}
use Rattle.model.specs.Installed.{listed_at, is_installed, Follows}
use Rattle.model.specs.declared.Entry.{Entry}
use Rattle.model.proofs.Tests.{no_way, and, and_l, and_r}
use Rattle.model.proofs.Epochs.{at_below, at_whole}
use Rattle.model.proofs.TakenLog.{tabled}
use Rattle.model.proofs.LogRules as model
use Rattle.lot.specs.Writing.{found_of}
use Rattle.promises.specs.Runs.{read_record, found, Step, Turn}
use Rattle.promises.specs.Followed.{steps_in, accepted_in, lists_in, Followed, OpenedRun}
use Rattle.promises.specs.Images.{RecordOf}
use Rattle.promises.specs.Primary.{FollowsPrimary, WritesInstalled, LatestWrite, never_written, last_written}
use Rattle.promises.proofs.Answered.{read_answered}
use Rattle.promises.proofs.Following.{run_fragments, opened_followed}

-- ---- the last entry of a stream that passes a test

module _ (D : ℕ → Bool) (k : ℕ) where
  abbrev counts : Held → Bool
  counts h = writes_to k h && D h.transaction

  -- none that counts from position n on
  abbrev NoneFrom : ℕ → List Held → Type 0
  NoneFrom n hs = (p : ℕ) (h : Held) → n ≤ p → At h hs p → counts h ≡ true → ⊥

  none_after : (n : ℕ) (h : Held) {hs : List Held} → NoneFrom n hs → NoneFrom (suc n) (h ∷ hs)
  none_after n h w zero g l a c = omega arith
  none_after n h w (suc p) g l (there a) c = w p g (omega arith) a c

  none_here : (h : Held) {hs : List Held} → counts h ≡ false → NoneFrom 0 hs → NoneFrom 0 (h ∷ hs)
  none_here h f w zero g l (here e) c = no_way (sym f ∙ ap counts (sym e) ∙ c)
  none_here h f w (suc p) g l (there a) c = w p g (omega arith) a c

  none_empty : NoneFrom 0 []
  none_empty p h l a c = omega (arith, at_below a)

  -- none counts, or h at position p is the last that does
  data LastOf (hs : List Held) (x : Record) : Record → Type 0 where
    none : NoneFrom 0 hs → LastOf hs x x
    last : {p : ℕ} {h : Held} → At h hs p → counts h ≡ true → NoneFrom (suc p) hs → LastOf hs x (written h)

  step : (h : Held) {hs : List Held} {x y : Record} (b : Bool) → counts h ≡ b → LastOf hs (if b then written h else x) y → LastOf (h ∷ hs) x y
  step h true c (none w) = last (here refl) c (none_after 0 h w)
  step h false c (none w) = none (none_here h c w)
  step h b c (last {p} a d w) = last (there a) d (none_after (suc p) h w)

  after_last : (hs : List Held) (x : Record) → LastOf hs x (after_writes D k hs x)
  unfolding after_writes
  after_last [] x = none none_empty
  after_last (h ∷ hs) x = step h (counts h) refl (after_last hs (if counts h then written h else x))

  -- the entries hs are a first part of the stream, and have all its writes that count
  module _ {hs stream : List Held} (from_put : (p : ℕ) (h : Held) → At h hs p → PUT ≤ h.kind) (part : (p : ℕ) (h : Held) → At h hs p → At h stream p) (all : (p : ℕ) (h : Held) → At h stream p → WritesInstalled D k h → At h hs p) where
    counted : (h : Held) → WritesInstalled D k h → counts h ≡ true
    counted h w = and (and (le-leb h.kind DELETE w.to_delete) (eq-eqb (key h) k w.of_key)) w.installed

    counting : (p : ℕ) (h : Held) → At h hs p → counts h ≡ true → WritesInstalled D k h
    counting p h a c =
        let w = and_l (writes_to k h) _ c in
        record { from_put = from_put p h a; to_delete = leb-true h.kind DELETE (and_l (leb h.kind DELETE) _ w); of_key = eqb-true (key h) k (and_r (leb h.kind DELETE) _ w); installed = and_r (writes_to k h) _ c }

    latest : {x : Record} → LastOf hs absent x → LatestWrite D k stream x
    latest (none w) = never_written (λ p h a u. w p h (omega arith) (all p h a u) (counted h u))
    latest (last {p} {h} a c w) = last_written (part p h a) (counting p h a c) (λ q g l b u. w q g l (all q g b u) (counted g u))

module _ {number f k lot : ℕ} {ts : List Turn} {m' : List ℕ} {wrote : ℕ → List Entry} (opening : OpenedRun number f k lot ts m') (primary : FollowsPrimary number lot f ts wrote) where
  abbrev W : Followed number lot ts (fresh number f k) m'
  W = opened_followed opening

  abbrev F : Follows number f k (steps_in number lot ts) wrote
  F = record { allowed = W.allowed; first_part = primary.first_part; rules = primary.rules }

  -- close number c, counted from 0, lists piece (i, t): so it lists each piece (j, t) of a fragment j where t has a put, a delete, P or CC
  pub all_fragments : (c i t : ℕ) → listed_at (lists_in number lot ts) c i t ≡ true → (j p : ℕ) (h : Held) → Stands f wrote j p h → PUT ≤ h.kind → h.kind ≤ CC → h.transaction ≡ t
      → listed_at (lists_in number lot ts) c j t ≡ true
  all_fragments = rw W.listed (model.all_fragments F)

  -- and no other close lists any of them
  pub in_one_close : (c d i j t : ℕ) → listed_at (lists_in number lot ts) c i t ≡ true → listed_at (lists_in number lot ts) d j t ≡ true → c ≡ d
  in_one_close = rw W.listed (model.in_one_close F)

  -- a commit of u stands in stream i before P or CC of t, which is installed: so u is installed there
  pub earlier_commit : (i p q j t u : ℕ) (e h : Held) → Stands f wrote i p e → Stands f wrote i q h → p < q → Is f wrote CC u e ⊎ Is f wrote CP u e → Is f wrote P t h ⊎ Is f wrote CC t h
      → is_installed (lists_in number lot ts) j t ≡ true → is_installed (lists_in number lot ts) i u ≡ true
  earlier_commit = rw W.listed (model.earlier_commit F)

  -- a read at the end of the run is answered the record x
  module _ {lots i key : ℕ} {m'' : List ℕ} (x : Record) (answered : Step m' (read_record lots lot number i key) (found (Ok (found_of x))) m'') where
    abbrev shown : RecordOf (run (steps_in number lot ts) (fresh number f k)) i key x
    shown = read_answered lots lot number i key x answered W.held

    in_account_law : i < f
    unfolding fresh
    in_account_law = omega (arith, shown.in_fragments, run_fragments (steps_in number lot ts) (fresh number f k))

    abbrev D : ℕ → Bool
    D = is_installed (lists_in number lot ts) i

    read_is : x ≡ after_writes D key (in_epochs 1 (accepted_in number lot ts i)) absent
    read_is = shown.value ∙ model.latest_write F i key in_account_law ∙ ap (λ ls. after_writes (is_installed ls i) key (in_epochs 1 (accepted_in number lot ts i)) absent) (sym W.listed)

    -- what is accepted stands in the stream, and what an installed transaction wrote there was accepted
    part : (p : ℕ) (h : Held) → At h (in_epochs 1 (accepted_in number lot ts i)) p → At h (in_epochs 1 (wrote i)) p
    part p h a = let e = primary.first_part i in_account_law in rw e.splits (at_whole 1 (accepted_in number lot ts i) e.rest a)

    all : (p : ℕ) (h : Held) → At h (in_epochs 1 (wrote i)) p → WritesInstalled D key h → At h (in_epochs 1 (accepted_in number lot ts i)) p
    all p h a u = model.written_taken F (record { fragment = in_account_law; at = a }) u.from_put u.to_delete (rw W.listed at u.installed)

    pub latest_write : LatestWrite D key (in_epochs 1 (wrote i)) x
    latest_write = rw read_is (latest D key (λ p h a. ((tabled number f k (steps_in number lot ts) W.allowed i).kinds a).0) part all (after_last D key (in_epochs 1 (accepted_in number lot ts i)) absent))

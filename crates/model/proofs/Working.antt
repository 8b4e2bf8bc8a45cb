-- The log rules in the form that proofs work with, over the entries of each stream with the epoch of each, and laws of positions. Assumes nothing.
use Prim.Native.Nat.{ℕ, zero, suc, ◌≤◌, ◌<◌}
use mathlib.Core.Path.{◌≡◌, sym, ◌∙◌}
use mathlib.Core.Logic.{◌⊎◌, ◌≢◌}
use mathlib.Core.Bool.{false}
use mathlib.Core.List.{List, Memᴰ}
use native.Mathlib.Omega.{arith}
use native.Mathlib.Decide.{dec_lt}
use Rattle.model.specs.Entry.{DELETE, P, CC, CP, A}
use Rattle.model.specs.Account.{Held, key, coordinator, Account}
use Rattle.model.specs.Rules.{At, here, there}

-- h stands in the stream
abbrev pub In : Held → List Held → Type 0
In h hs = Memᴰ h hs

-- what the streams hold
abbrev pub streams : Account → ℕ → List Held
streams a i = (a.at i).held

pub record Kept (L : ℕ → List Held) : Type 0 where
  pub fresh : {i : ℕ} {h : Held} → In h (L i) → h.flagged ≡ false
  pub begun : {i : ℕ} {h : Held} → In h (L i) → 1 ≤ h.epoch
  -- 1: CC(T) stands only in the coordinator's stream, each P(T) names that coordinator, and there is one CC(T)
  pub names : {i j : ℕ} {h g : Held} → In h (L i) → In g (L j) → h.kind ≡ P → g.kind ≡ CC → h.transaction ≡ g.transaction → coordinator h ≡ j
  pub one : {i j : ℕ} {h g : Held} → In h (L i) → In g (L j) → h.kind ≡ CC → g.kind ≡ CC → h.transaction ≡ g.transaction → h.epoch ≡ g.epoch
  -- 2: if CC(T) exists, each P(T) is in an epoch not later than CC(T)'s
  pub intime : {i j : ℕ} {h g : Held} → In h (L i) → In g (L j) → h.kind ≡ P → g.kind ≡ CC → h.transaction ≡ g.transaction → h.epoch ≤ g.epoch
  -- 3: a CP(T) exists only if CC(T) does, in CC(T)'s epoch or a later one
  pub backed : {i : ℕ} {h : Held} → In h (L i) → h.kind ≡ CP → (j : ℕ) × (g : Held) × In g (L j) × (g.kind ≡ CC) × (g.transaction ≡ h.transaction) × (g.epoch ≤ h.epoch)
  -- 4: a transaction with CC(T) has no A in any stream
  pub kept : {i j : ℕ} {h g : Held} → In h (L i) → In g (L j) → h.kind ≡ A → g.kind ≡ CC → h.transaction ≡ g.transaction → ⊥

-- what turns on the order of a stream
pub record Ordered (L : ℕ → List Held) : Type 0 where
  pub rising : {i p q : ℕ} {h g : Held} → At h (L i) p → At g (L i) q → p ≤ q → h.epoch ≤ g.epoch
  -- the table of the entries: CP comes after P, and a P names another fragment
  pub after_p : {i q : ℕ} {h : Held} → At h (L i) q → h.kind ≡ CP → (p : ℕ) × (g : Held) × (p < q) × At g (L i) p × (g.kind ≡ P) × (g.transaction ≡ h.transaction)
  pub other : {i : ℕ} {h : Held} → In h (L i) → h.kind ≡ P → coordinator h ≢ i
  pub no_mark : {i : ℕ} {h : Held} → In h (L i) → h.kind ≤ A
  -- 1: no second P(T), and nothing of T follows its CC, CP or A
  pub one_p : {i p q : ℕ} {h g : Held} → At h (L i) p → At g (L i) q → p < q → h.kind ≡ P → g.kind ≡ P → h.transaction ≡ g.transaction → ⊥
  pub last : {i p q : ℕ} {h g : Held} → At h (L i) p → At g (L i) q → p < q → CC ≤ h.kind → h.transaction ≡ g.transaction → ⊥
  -- 2: if CC(T) exists, each other fragment with writes of T has P(T) after them
  pub then_p : {i j p : ℕ} {h g : Held} → At h (L i) p → In g (L j) → h.kind ≤ DELETE → g.kind ≡ CC → h.transaction ≡ g.transaction
      → (i ≡ j) ⊎ ((q : ℕ) × (e : Held) × (p < q) × At e (L i) q × (e.kind ≡ P) × (e.transaction ≡ h.transaction))
  -- 5: between a write of a key and another's write of it stands the first one's CC, CP or A
  pub apart : {i p q : ℕ} {h g : Held} → At h (L i) p → At g (L i) q → p < q → h.kind ≤ DELETE → g.kind ≤ DELETE → key h ≡ key g → h.transaction ≢ g.transaction
      → (r : ℕ) × (e : Held) × (p < r) × (r < q) × At e (L i) r × (CC ≤ e.kind) × (e.transaction ≡ h.transaction)

-- ---- positions

pub in_at : {h : Held} {hs : List Held} → In h hs → (p : ℕ) × At h hs p
in_at (Memᴰ.head e) = (zero, here e)
in_at (Memᴰ.tail m) = let r = in_at m in (suc r.0, there r.1)

pub at_in : {h : Held} {hs : List Held} {p : ℕ} → At h hs p → In h hs
at_in (here e) = Memᴰ.head e
at_in (there a) = Memᴰ.tail (at_in a)

at_one : {h g : Held} {hs : List Held} (p : ℕ) → At h hs p → At g hs p → h ≡ g
at_one zero (here e) (here f) = e ∙ sym f
at_one (suc p) (there a) (there b) = at_one p a b

-- a transaction has one CC, CP or A in a stream
module _ {L : ℕ → List Held} (O : Ordered L) {i : ℕ} {e f : Held} (k : CC ≤ e.kind) (l : CC ≤ f.kind) (t : e.transaction ≡ f.transaction) where
  pub one_place : {p q : ℕ} → At e (L i) p → At f (L i) q → p ≡ q
  one_place {p} {q} x y = go (dec_lt p q) (dec_lt q p)
    where
      go : Dec (p < q) → Dec (q < p) → p ≡ q
      go (yes u) w = absurd (O.last x y u k t)
      go (no u) (yes w) = absurd (O.last y x w l (sym t))
      go (no u) (no w) = omega arith

  pub one_end : In e (L i) → In f (L i) → e ≡ f
  one_end x y = let a = in_at x in let b = in_at y in at_one b.0 (rw (one_place a.1 b.1) at a.1) b.1

-- What the primary must keep: the five log rules, over the whole streams that it wrote, of which the taken entries are a first part.
use Rattle.std.specs.Prelude.{ℕ, zero, suc, ◌≤◌, ◌<◌, ◌≡◌, ◌≢◌, List, [], ◌∷◌, ◌++◌, if◌then◌else◌}
use Rattle.model.specs.Entry.{is_mark, PUT, DELETE, P, CC, CP, A}
use Rattle.model.specs.Account.{Held, key, coordinator}
use Rattle.model.specs.Taking.{hold}
use Rattle.model.specs.declared.Entry.{Entry}

-- the entries of a stream but its marks, each in its epoch; n is the epoch at the start
unfoldable pub in_epochs : ℕ → List Entry → List Held
in_epochs n [] = []
in_epochs n (e ∷ es) = if is_mark e then in_epochs (suc n) es else hold e n ∷ in_epochs n es

-- h stands in the list at position p
pub data At (h : Held) : List Held → ℕ → Type 0 where
  here : {x : Held} {xs : List Held} → h ≡ x → At h (x ∷ xs) zero
  there : {x : Held} {xs : List Held} {p : ℕ} → At h xs p → At h (x ∷ xs) (suc p)

-- one list is a first part of another
pub record FirstPart (part whole : List Entry) : Type 0 where
  pub rest : List Entry
  pub splits : whole ≡ part ++ rest

-- the whole streams of an account of f fragments
module _ (f : ℕ) (wrote : ℕ → List Entry) where
  -- h stands in stream i at position p
  pub record Stands (i p : ℕ) (h : Held) : Type 0 where
    pub fragment : i < f
    pub at : At h (in_epochs 1 (wrote i)) p

  -- h is of kind k and of transaction t; h is a put or a delete of t; h is CC, CP or A of t
  abbrev pub Is : ℕ → ℕ → Held → Type 0
  Is k t h = (h.kind ≡ k) × (h.transaction ≡ t)

  abbrev pub Writes : ℕ → Held → Type 0
  Writes t h = (PUT ≤ h.kind) × (h.kind ≤ DELETE) × (h.transaction ≡ t)

  abbrev pub Ends : ℕ → Held → Type 0
  Ends t h = (CC ≤ h.kind) × (h.kind ≤ A) × (h.transaction ≡ t)

  pub record LogRules : Type 0 where
    -- 1. A transaction number serves one transaction of the account, with one coordinator.
    pub coordinator_of : ℕ → ℕ
    -- CC(T) stands only in the coordinator's stream,
    pub coordinator_commits : {i p t : ℕ} {h : Held} → Stands i p h → Is CC t h → i ≡ coordinator_of t
    -- each P(T) names that coordinator,
    pub prepare_names : {i p t : ℕ} {h : Held} → Stands i p h → Is P t h → coordinator h ≡ coordinator_of t
    -- and in a stream no second P(T) comes
    pub one_prepare : {i p q t : ℕ} {h g : Held} → Stands i p h → Stands i q g → p < q → Is P t h → Is P t g → ⊥
    -- and nothing of T follows its CC, CP or A.
    pub nothing_follows : {i p q t : ℕ} {h g : Held} → Stands i p h → Stands i q g → p < q → Ends t h → g.transaction ≡ t → ⊥
    -- 2. If CC(T) exists, each other fragment with writes of T has P(T) after them,
    pub prepared_after : {i j p c t : ℕ} {h g : Held} → Stands j c g → Is CC t g → Stands i p h → Writes t h → i ≢ j → (q : ℕ) × (e : Held) × (p < q) × Stands i q e × Is P t e
    -- and each P(T) is in an epoch not later than CC(T)'s.
    pub prepared_by : {i j p c t : ℕ} {h g : Held} → Stands j c g → Is CC t g → Stands i p h → Is P t h → h.epoch ≤ g.epoch
    -- 3. A CP(T) exists only if CC(T) does, in CC(T)'s epoch or a later one.
    pub commit_decided : {i p t : ℕ} {h : Held} → Stands i p h → Is CP t h → (j : ℕ) × (c : ℕ) × (g : Held) × Stands j c g × Is CC t g × (g.epoch ≤ h.epoch)
    -- 4. A transaction with CC(T) has no A in any stream.
    pub never_both : {i j p c t : ℕ} {h g : Held} → Stands j c g → Is CC t g → Stands i p h → Is A t h → ⊥
    -- 5. From T's first write of a key until its CC, CP or A in that stream, nobody else writes that key there.
    pub key_kept : {i p q t u : ℕ} {h g : Held} → Stands i p h → Stands i q g → p < q → Writes t h → Writes u g → key h ≡ key g → t ≢ u → (r : ℕ) × (e : Held) × (p < r) × (r < q) × Stands i r e × Ends t e

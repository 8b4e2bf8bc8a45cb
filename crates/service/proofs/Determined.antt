-- The functions for C are determined: two results that one contract allows, of the same memory and arguments, are one number, leave the memory alike, and leave the same lent bytes. Assumes nothing.
use Prim.Native.Nat.{ℕ, ◌<◌}
use mathlib.Core.Path.{◌≡◌, refl, sym, ap, subst, ◌∙◌}
use mathlib.Core.List.{List, [], ◌∷◌, ◌++◌, append_assoc}
use native.Mathlib.Omega.{arith}
use lib.ListN.{length, drop, length-append}
use lib.Seq.{drop_at}
use Rattle.wire.specs.Numbers.{number32, bytes32}
use Rattle.model.specs.Answers.{outcome_numbers, opened_numbers, closed_numbers, found_numbers, saved_numbers}
use Rattle.model.specs.Image.{each}
use Rattle.model.specs.declared.Numbers.{Numbers}
use Rattle.standby.specs.Calls.{Started, AccountOpened, Delivered, read_answer, Dropped}
use Rattle.standby.specs.Images.{AccountSaved, AccountLoaded}
use Rattle.standby.proofs.Determined.{SameAfter, SameStart, SameOpen, SameClose, started_same, opened_same, delivered_same, dropped_same, closed_same, saved_same, loaded_same}
use Rattle.overview.proofs.Answers.{overviewed_same}
use Rattle.overview.specs.declared.Row.{Row}
use Rattle.service.specs.Packing.{packed, Answered}
use Rattle.service.specs.Crossing.{Crossing, row16, ListClosed, RowsFilled}
use Rattle.service.proofs.Crossing.{number_in, row_in, number_long, row_long}

-- ---- one number

-- what the call owes determines its answer, and something of it: so does the number that packs the answer
pub answered_same : {A : Type 0} {numbers_of : A → Numbers} {Owed₁ Owed₂ : A → Type 0} (Also : A → Type 0) → ((x y : A) → Owed₁ x → Owed₂ y → (y ≡ x) × Also x)
    → {r₁ r₂ : ℕ} (u : Answered numbers_of Owed₁ r₁) → Answered numbers_of Owed₂ r₂ → (r₂ ≡ r₁) × Also u.answer
answered_same {numbers_of = numbers_of} Also same u w =
    let s = same u.answer w.answer u.owed w.owed in
    (w.packs ∙ ap (λ a. packed (numbers_of a)) s.0 ∙ sym u.packs, s.1)

-- ---- lists that cross: the lent bytes show one list and one end of odd bytes

module _ {X : Type 0} (bytes_of : X → List ℕ) (size : ℕ) (long : (x : X) → length (bytes_of x) ≡ size) (read : List ℕ → X) (reads : (x : X) (more : List ℕ) → read (bytes_of x ++ more) ≡ x) where
  -- odd bytes are too few for one more
  too_few : (y : X) (more odd : List ℕ) → length odd < size → odd ≡ bytes_of y ++ more → ⊥
  too_few y more odd h e = omega (arith, ap length e, length-append (bytes_of y) more, long y)

  one_list : (xs ys : List X) (odd₁ odd₂ : List ℕ) → length odd₁ < size → length odd₂ < size → each bytes_of xs ++ odd₁ ≡ each bytes_of ys ++ odd₂ → (ys ≡ xs) × (odd₂ ≡ odd₁)
  unfolding each
  one_list [] [] odd₁ odd₂ h₁ h₂ e = (refl, sym e)
  one_list [] (y ∷ ys) odd₁ odd₂ h₁ h₂ e = absurd (too_few y (each bytes_of ys ++ odd₂) odd₁ h₁ (e ∙ append_assoc (bytes_of y) (each bytes_of ys) odd₂))
  one_list (x ∷ xs) [] odd₁ odd₂ h₁ h₂ e = absurd (too_few x (each bytes_of xs ++ odd₁) odd₂ h₂ (sym e ∙ append_assoc (bytes_of x) (each bytes_of xs) odd₁))
  one_list (x ∷ xs) (y ∷ ys) odd₁ odd₂ h₁ h₂ e =
      let more₁ = each bytes_of xs ++ odd₁ in
      let more₂ = each bytes_of ys ++ odd₂ in
      let both : bytes_of x ++ more₁ ≡ bytes_of y ++ more₂ = sym (append_assoc (bytes_of x) (each bytes_of xs) odd₁) ∙ e ∙ append_assoc (bytes_of y) (each bytes_of ys) odd₂ in
      let first : y ≡ x = sym (reads y more₂) ∙ ap read (sym both) ∙ reads x more₁ in
      let rest : more₁ ≡ more₂ = sym (drop_at (bytes_of x) more₁ size (long x)) ∙ ap (drop size) both ∙ drop_at (bytes_of y) more₂ size (long y) in
      let s = one_list xs ys odd₁ odd₂ h₁ h₂ rest in
      (rw (first, s.0), s.1)

  -- what is owed of one list determines the list left, and something else: so do the bytes left
  pub crossing_same : {Owed₁ Owed₂ : List X → List X → Type 0} {b b₁ b₂ : List ℕ} (Also : Type 0) → ((list list₁ list₂ : List X) → Owed₁ list list₁ → Owed₂ list list₂ → Also × (list₂ ≡ list₁))
      → Crossing bytes_of size Owed₁ b b₁ → Crossing bytes_of size Owed₂ b b₂ → Also × (b₂ ≡ b₁)
  crossing_same {Owed₂ = Owed₂} Also same u w =
      let s = one_list u.list w.list u.odd w.odd u.few w.few (sym u.lent ∙ w.lent) in
      let t = same u.list u.list' w.list' u.owed (subst (λ l. Owed₂ l w.list') s.0 w.owed) in
      (t.0, w.left ∙ (λ i. each bytes_of (t.1 i) ++ s.1 i) ∙ sym u.left)

number_reads : (v : ℕ) (more : List ℕ) → number_in (bytes32 v ++ more) ≡ v
unfolding number32 bytes32
number_reads v more = omega arith

row_reads : (r : Row) (more : List ℕ) → row_in (row16 r ++ more) ≡ r
unfolding number32 bytes32 row16
row_reads r more = λ i. record { account = number_reads r.account [] i; closed = number_reads r.closed [] i; held = number_reads r.held [] i; damaged = number_reads r.damaged [] i }

-- ---- the nine functions

module _ {m m₁ m₂ : List ℕ} {lots r₁ r₂ : ℕ} where
  pub start_determined : (u : Answered outcome_numbers (Started m m₁ lots) r₁) → Answered outcome_numbers (Started m m₂ lots) r₂ → (r₂ ≡ r₁) × SameStart lots u.answer m₁ m₂
  start_determined u w = answered_same (λ r. SameStart lots r m₁ m₂) (λ x y a b. started_same a b) u w

  pub open_determined : {number f k : ℕ} (u : Answered opened_numbers (AccountOpened m m₁ lots number f k) r₁) → Answered opened_numbers (AccountOpened m m₂ lots number f k) r₂ → (r₂ ≡ r₁) × SameOpen u.answer m₁ m₂
  open_determined u w = answered_same (λ r. SameOpen r m₁ m₂) (λ x y a b. opened_same a b) u w

  pub deliver_determined : {lot number : ℕ} {entry : List ℕ} (u : Answered outcome_numbers (Delivered m m₁ lots lot number entry) r₁) → Answered outcome_numbers (Delivered m m₂ lots lot number entry) r₂ → (r₂ ≡ r₁) × SameAfter lot u.answer m₁ m₂
  deliver_determined {lot = lot} u w = answered_same (λ r. SameAfter lot r m₁ m₂) (λ x y a b. delivered_same a b) u w

  pub load_determined : {given : List ℕ} (u : Answered opened_numbers (AccountLoaded m m₁ lots given) r₁) → Answered opened_numbers (AccountLoaded m m₂ lots given) r₂ → (r₂ ≡ r₁) × SameOpen u.answer m₁ m₂
  load_determined u w = answered_same (λ r. SameOpen r m₁ m₂) (λ x y a b. loaded_same a b) u w

  pub drop_determined : {lot number : ℕ} (u : Answered outcome_numbers (Dropped m m₁ lots lot number) r₁) → Answered outcome_numbers (Dropped m m₂ lots lot number) r₂ → (r₂ ≡ r₁) × SameAfter lot u.answer m₁ m₂
  drop_determined {lot = lot} u w = answered_same (λ r. SameAfter lot r m₁ m₂) (λ x y a b. dropped_same a b) u w

  -- b: the list's bytes
  pub close_determined : {lot number : ℕ} {b b₁ b₂ : List ℕ} (u : Answered closed_numbers (ListClosed m m₁ lots lot number b b₁) r₁) → Answered closed_numbers (ListClosed m m₂ lots lot number b b₂) r₂
      → (r₂ ≡ r₁) × (SameClose lot u.answer m₁ m₂ × (b₂ ≡ b₁))
  close_determined {lot = lot} {b₁ = b₁} {b₂ = b₂} u w =
      answered_same (λ r. SameClose lot r m₁ m₂ × (b₂ ≡ b₁))
      (λ x y a b.
      let s = crossing_same bytes32 4 number_long number_in number_reads ((y ≡ x) × SameClose lot x m₁ m₂) (λ list list₁ list₂ c d. let t = closed_same c d in ((t.0, t.1), t.2)) a b in
      (s.0.0, (s.0.1, s.1)))
      u w

-- read, save and the overview lend the memory unchanged

pub read_determined : (m : List ℕ) (lots lot number fragment key : ℕ) {r₁ r₂ : ℕ} → r₁ ≡ packed (found_numbers (read_answer m lots lot number fragment key)) → r₂ ≡ packed (found_numbers (read_answer m lots lot number fragment key)) → r₂ ≡ r₁
read_determined m lots lot number fragment key u w = w ∙ sym u

module _ {m b b₁ b₂ : List ℕ} {lots r₁ r₂ : ℕ} where
  -- b: the buffer for the image
  pub save_determined : {lot number : ℕ} → Answered saved_numbers (AccountSaved m lots lot number b b₁) r₁ → Answered saved_numbers (AccountSaved m lots lot number b b₂) r₂ → (r₂ ≡ r₁) × (b₂ ≡ b₁)
  save_determined u w = answered_same (λ r. b₂ ≡ b₁) (λ x y a c. saved_same a c) u w

  -- b: the rows' bytes
  pub overview_determined : Answered outcome_numbers (RowsFilled m lots b b₁) r₁ → Answered outcome_numbers (RowsFilled m lots b b₂) r₂ → (r₂ ≡ r₁) × (b₂ ≡ b₁)
  overview_determined u w = answered_same (λ r. b₂ ≡ b₁) (λ x y a c. crossing_same row16 16 row_long row_in row_reads (y ≡ x) (λ rows rows₁ rows₂ d e. overviewed_same d e) a c) u w

-- The records after the write of one place, and one change after another. Assumes nothing.
use Prim.Native.Nat.{ℕ, ◌≤◌, ◌<◌, ◌^◌}
use mathlib.Core.Path.{◌≡◌, refl, sym, ap, ◌∙◌}
use mathlib.Core.Bool.{Bool, true, false}
use mathlib.Core.List.{List}
use native.Mathlib.Omega.{arith}
use borrow.Author.Tests.{eq-eqb, ne_eqb, eqb-true, eqb-false, lt-leb, le-leb}
use lib.Dec.{leb, eqb}
use lib.ListN.{length}
use Rattle.std.specs.Prelude.{if◌then◌else◌}
use Rattle.model.specs.Entry.{PUT, DELETE}
use Rattle.model.specs.Account.{Record, absent, present, key}
use Rattle.model.specs.Closing.{written}
use Rattle.model.specs.Image.{Item}
use Rattle.lot.specs.View.{record_at}
use Rattle.lot.specs.Writing.{with_record, without_record}
use Rattle.lot.proofs.Records.{length_record, length_no_record, put_own, put_other, delete_own, delete_other}
use Rattle.install.specs.Writes.{Changed, write_of}

module _ {r r' : List ℕ} {s : ℕ} where
  pub change_same : {g g' : ℕ → Record → Record} → ((k : ℕ) (y : Record) → k < 128 → g k y ≡ g' k y) → Changed r r' s g → Changed r r' s g'
  change_same e c = record { size = c.size; are = λ j k l. c.are j k l ∙ ap (λ z. if eqb s j then z else record_at r j k) (e k (record_at r j k) l) }

pub change_none : (r : List ℕ) (s : ℕ) → Changed r r s (λ k y. y)
change_none r s = record { size = refl; are = λ j k l. go (eqb s j) (record_at r j k) }
  where
    go : (b : Bool) (y : Record) → y ≡ (if b then y else y)
    go true y = refl
    go false y = refl

pub change_more : {r r' r'' : List ℕ} {s : ℕ} {g g' : ℕ → Record → Record} → Changed r r' s g → Changed r' r'' s g' → Changed r r'' s (λ k y. g' k (g k y))
change_more {r} {s = s} {g = g} {g' = g'} c d = record { size = d.size ∙ c.size; are = λ j k l. d.are j k l ∙ rw (c.are j k l) (go (eqb s j) k (record_at r j k)) }
  where
    go : (b : Bool) (k : ℕ) (y : Record) → (if b then g' k (if b then g k y else y) else (if b then g k y else y)) ≡ (if b then g' k (g k y) else y)
    go true k y = refl
    go false k y = refl

-- ---- one place

module _ (r : List ℕ) (x : Item) where
  pub write_none : DELETE < x.entry.kind → Changed r r x.stream (write_of x)
  write_none l = change_same (λ k y u. rw (lt-leb x.entry.kind DELETE l)) (change_none r x.stream)

  module _ (r' : List ℕ) (size : length r' ≡ length r) (writes : leb x.entry.kind DELETE ≡ true) (is : record_at r' x.stream (key x.entry) ≡ written x.entry)
      (others : (j l : ℕ) → l < 128 → (x.stream ≡ j → key x.entry ≡ l → ⊥) → record_at r' j l ≡ record_at r j l) where
    write_one : Changed r r' x.stream (write_of x)
    write_one = record { size = size; are = λ j k l. rw writes (go j k l (eqb x.stream j) refl (eqb (key x.entry) k) refl) }
      where
        go : (j k : ℕ) → k < 128 → (a : Bool) → eqb x.stream j ≡ a → (b : Bool) → eqb (key x.entry) k ≡ b
            → record_at r' j k ≡ (if a then (if b then written x.entry else record_at r j k) else record_at r j k)
        go j k l true ea true eb = ap (λ i. record_at r' i k) (sym (eqb-true _ _ ea)) ∙ ap (record_at r' x.stream) (sym (eqb-true _ _ eb)) ∙ is
        go j k l true ea false eb = others j k l (λ p q. eqb-false _ _ eb q)
        go j k l false ea b eb = others j k l (λ p q. eqb-false _ _ ea p)

  module _ (len : length r ≡ 5120) (few : x.stream < 8) (small : key x.entry < 128) where
    pub write_put : (r' : List ℕ) → x.entry.kind ≡ PUT → x.entry.value < 2 ^ 32 → r' ≡ with_record r x.stream (key x.entry) x.entry.value → Changed r r' x.stream (write_of x)
    write_put r' p v e =
        let s = x.stream in
        let k = key x.entry in
        write_one r' (rw e (length_record r s k x.entry.value)) (le-leb x.entry.kind DELETE (omega arith))
        (rw e (put_own r s k (omega arith) x.entry.value v) ∙ put_is) (λ j l u n. rw e (put_other r s k small j l u n x.entry.value))
      where
        put_is : present x.entry.value ≡ written x.entry
        put_is = rw (eq-eqb x.entry.kind PUT p)

    pub write_delete : (r' : List ℕ) → x.entry.kind ≤ DELETE → (x.entry.kind ≡ PUT → ⊥) → r' ≡ without_record r x.stream (key x.entry) → Changed r r' x.stream (write_of x)
    write_delete r' w p e =
        let s = x.stream in
        let k = key x.entry in
        write_one r' (rw e (length_no_record r s k)) (le-leb x.entry.kind DELETE w)
        (rw e (delete_own r s k (omega arith)) ∙ delete_is) (λ j l u n. rw e (delete_other r s k small j l u n))
      where
        delete_is : absent ≡ written x.entry
        delete_is = rw (ne_eqb x.entry.kind PUT p)

-- What is printed at the end: each present record of the account, by fragment, then key, and the held count. Assumes nothing.
use Rattle.std.specs.Prelude.{Ok}
use Prim.Native.Nat.{ℕ, zero, suc, ◌<◌, ◌≤◌}
use mathlib.Core.Path.{◌≡◌, refl, ap, sym, ◌∙◌}
use mathlib.Core.List.{List, ◌++◌, append-nil}
use native.Mathlib.Omega.{arith}
use borrow.Author.Tests.{lt-ltb}
use Rattle.model.specs.Lists.{upward}
use Rattle.model.specs.Account.{Account, Record, absent, present, found}
use Rattle.model.specs.Image.{shown, form, each}
use Rattle.model.proofs.Buckets.{upward_cong}
use Rattle.lot.specs.Writing.{found_of}
use Rattle.lot.specs.declared.Account as numbers
use Rattle.lots.specs.Memory.{named}
use Rattle.lots.specs.Looks.{finding_of}
use Rattle.lots.proofs.Named.{finding_found, held_fits_law}
use Rattle.judging.proofs.Parts.{each_append}
use Rattle.standby.specs.Calls.{read_answer}
use Rattle.lines.specs.Lines.{record_line, held_line}
use Rattle.replaying.specs.Replaying.{record_text, account_text, last_text, found_text, fragment_text, records_text}

each_upward : {X : Type 0} (line : X → List ℕ) (c n : ℕ) (p : ℕ → List X) → each line (upward c n p) ≡ upward c n (λ i. each line (p i))
unfolding each upward
each_upward line zero n p = refl
each_upward line (suc c) n p = each_append 0 line (p n) (upward c (suc n) p) ∙ ap (λ r. each line (p n) ++ r) (each_upward line c (suc n) p)

-- a record that is read, and one that an image shows
line_of : (i k : ℕ) (x : Record) → found_text i k (Ok (found_of x)) ≡ each record_text (shown i k x)
unfolding shown each
line_of i k absent = refl
line_of i k (present v) = sym (append-nil (record_line i k v))

module _ (m : List ℕ) (number : ℕ) where
  module _ {a : Account} (here : named m 1 0 number ≡ found a) where
    line_read : (i k : ℕ) → i < a.fragments → k < a.keys → found_text i k (read_answer m 1 0 number i k) ≡ each record_text (shown i k ((a.at i).records k))
    unfolding read_answer
    line_read i k hi hk = rw (here, lt-ltb i a.fragments hi, lt-ltb k a.keys hk) (line_of i k ((a.at i).records k))

    fragment_read : (i : ℕ) → i < a.fragments → fragment_text m number i a.keys ≡ each record_text (upward a.keys 0 (λ k. shown i k ((a.at i).records k)))
    unfolding fragment_text
    fragment_read i hi =
        upward_cong a.keys 0 _ _ (λ k low high. line_read i k hi (omega arith))
        ∙ sym (each_upward record_text a.keys 0 (λ k. shown i k ((a.at i).records k)))

    records_read : records_text m number a.fragments a.keys ≡ each record_text (form a).records
    unfolding records_text form
    records_read =
        upward_cong a.fragments 0 _ _ (λ i low high. fragment_read i (omega arith))
        ∙ sym (each_upward record_text a.fragments 0 (λ i. upward a.keys 0 (λ k. shown i k ((a.at i).records k))))

  module _ {n : numbers.Account} (e : finding_of (named m 1 0 number) ≡ Ok n) where
    pub found_limits : (n.fragments ≤ 8) × (n.keys ≤ 128)
    found_limits = let f = finding_found m 1 0 number e in rw f.numbers (held_fits_law m 0 f.here.held)

    pub account_printed : {between out : List ℕ} → between ≡ records_text m n.number n.fragments n.keys → out ≡ between ++ held_line n.held → out ≡ last_text (named m 1 0 number)
    unfolding account_text
    account_printed {between} first second =
        let f = finding_found m 1 0 number e in
        let first' : between ≡ each record_text (form f.account).records = rw (f.numbers, f.here.numbered, records_read f.is_named) at first in
        let second' = rw f.numbers at second in
        rw f.is_named (second' ∙ rw first')

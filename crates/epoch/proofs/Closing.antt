-- What installing leaves in records and list, and what stays held, is what the model says. Assumes nothing.
use Prim.Native.Nat.{ℕ, suc, ◌≤◌}
use mathlib.Core.Path.{◌≡◌, sym, ap, ◌∙◌}
use mathlib.Core.Bool.{true}
use Rattle.std.specs.Prelude.{Option}
use mathlib.Core.List.{List}
use native.Mathlib.Omega.{arith}
use borrow.Author.Tests.{lt-ltb}
use lib.ListN.{length}
use Rattle.model.specs.Lists.{sum_below}
use Rattle.model.specs.Decoding.{mine}
use Rattle.model.proofs.Tests.{and_l}
use Rattle.model.specs.Section.{plain, section_fits}
use Rattle.held.proofs.Section.{stream_within, held_total}
use Rattle.verdicts.specs.declared.Verdict.{Verdict}
use Rattle.verdicts.specs.Orderly.{Orderly}
use Rattle.verdicts.specs.Verdicts.{held_in, Verdicts}
use Rattle.verdicts.proofs.FromSection.{orderly}
use Rattle.install.specs.Pieces.{count_of, InstalledAll}
use Rattle.install.proofs.ToModel.{after_are, few_pieces}
use Rattle.survivors.specs.Left.{Left}
use Rattle.survivors.proofs.Survivors.{left_mine, left_sorted}
use Rattle.epoch.specs.Closed.{Fits, Installed, StaysHeld}
use Rattle.epoch.proofs.Listing.{length_listed, streams_are, listed_is}

module _ {f c n : ℕ} {h : List ℕ} (w : Fits f c n h) where
  pub in_order_law : Orderly h n
  in_order_law = orderly w.keys c w.counters h n (omega (arith, w.few, w.all)) w.small w.fit

  plain_before : plain n h ≡ true
  unfolding section_fits
  plain_before = and_l _ _ w.fit

  pub few : (answers : List (Option Verdict)) → n ≤ 256 → count_of answers h n f ≤ 256
  few answers l =
      let t : sum_below (λ s. length (held_in h n s)) f ≡ n = ap (sum_below (λ s. length (held_in h n s))) (sym w.all) ∙ held_total w.keys c w.counters h n w.fit in
      omega (arith, few_pieces answers h n f)

  module _ (answers : List (Option Verdict)) (v : Verdicts answers h n (suc c)) where
    pub installed : {r r' l l' : List ℕ} {p : ℕ} → n ≤ 256 → 512 ≤ length l → InstalledAll answers h n f l l' r r' p → Installed f c n h r r' l l' p answers
    installed {l = l} room long a =
        let is = listed_is h answers n (suc c) f in_order_law v in
        let b = few answers room in
        record {
          counted = a.counted ∙ sym (length_listed h answers n f) ∙ ap length is;
          listed = a.listed ∙ streams_are h answers n l f (omega arith) ∙ rw (is, a.counted);
          records = λ i j u s. a.records i j s ∙ rw (lt-ltb i f u) (after_are answers h n (suc c) in_order_law v i j _);
          verdicts = v;
        }

    pub stays_held : {h' : List ℕ} {n' : ℕ} → Left h' n' answers h n → StaysHeld f c n h h' n'
    stays_held k = record {
      held = λ i. ap (mine i) k.items_are ∙ left_mine answers h n (suc c) v i n (omega arith);
      sorted = rw k.items_are (left_sorted answers h f n in_order_law (λ i u. omega (arith, stream_within w.keys c w.counters h n w.fit i u, w.all)));
      plain_places = k.stays_plain plain_before;
    }

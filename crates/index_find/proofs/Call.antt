-- The table of the list is ready, and the answer. Assumes nothing.
use Rattle.std.specs.Prelude.{Ok}
use mathlib.Core.Path.{◌≡◌}
use mathlib.Core.List.{List}
use Prim.Native.Nat.{ℕ, zero, suc, ◌+◌, ◌-◌, ◌*◌, ◌/◌, ◌≤◌, ◌<◌}
use native.Mathlib.Nat.{add-zero, add-suc}
use native.Mathlib.Omega.{arith}
use lib.Ieee.{Float}
use lib.ListN.{length, get_or, take}
use lib.Seq.{sets}
use Rattle.hash_near.specs.Over.{over}
use Rattle.hash_index.specs.Matches.{room_answer}
use Rattle.hash_index.specs.Steps.{Taken}
use Rattle.hash_index.proofs.Call as plain
use Rattle.hash_index.proofs.Sums.{over_bound}
use Rattle.index_table.specs.Table.{quad_key, table_of}
use Rattle.index_table.specs.Steps.{Run}
use Rattle.index_table.proofs.Entries.{table_run, table_long}
use Rattle.index_near.specs.Near.{Ready, near_hits}
use Rattle.index_find.specs.Indexed.{Ends}
use Rattle.index_find.specs.Steps.{Searched}
use Rattle.index_find.proofs.Near.{near_most}

module _ (others : List Float) (table : List ℕ) (m : ℕ) (few : m ≤ 12000) (is : take (m + m) table ≡ table_of others m) where
  rises : Run (quad_key others) table m 0 m → (i d : ℕ) → i + d < m → get_or table i 0 ≤ get_or table (i + d) 0
  rises r i zero h = rw add-zero (omega arith)
  rises r i (suc d) h =
      rw add-suc (omega (arith, rises r i d (omega arith), r.rising (i + d) (omega arith) (omega arith), r.own_to (i + d) (omega arith) (omega arith), r.own_to (suc (i + d)) (omega arith) (omega arith)))

  pub ready : Ready table m
  ready =
      let r = table_run others table m (omega arith) is in record {
        few = few;
        long = table_long others table m (omega arith) is;
        sorted = λ i j p h. let e : i + (j - i) ≡ j = omega arith in (rw e at (rises r i (j - i) (omega arith)));
        places = λ k h. r.own_to k (omega arith) h;
      }

pub searched : (places : List ℕ) (hashes : List Float) (catalogue : List ℕ) (others : List Float) (table : List ℕ) → Taken (length places) (length hashes) (length catalogue) (length others)
    → take (length catalogue / 4 + length catalogue / 4) table ≡ table_of others (length catalogue / 4) → Searched hashes (length places / 4) table (length catalogue / 4)
searched places hashes catalogue others table t is = record {
  hashed = omega (arith, t.same);
  few = t.few;
  ready = ready others table (length catalogue / 4) t.few_others is;
  near = near_most places hashes catalogue others table t.few_others is;
}

-- 12,000 near quads at most for each image quad
pub total_most : (hashes : List Float) (table : List ℕ) (m n : ℕ) → m ≤ 12000 → ((i : ℕ) → length (near_hits table m hashes i) ≤ m) → length (over (near_hits table m hashes) 0 n) ≤ n * 12000
total_most hashes table m n h f = over_bound 12000 (near_hits table m hashes) 0 n (λ i. omega (arith, f i))

-- all are written
pub done : (total : ℕ) (all old new : List ℕ) → length all ≡ 8 * total → 8 * total ≤ length old → new ≡ sets old 0 all
    → Ends room_answer all old (Ok total) new
done total all old new e h f = let d = plain.done total all old new e h f in record { answer = d.0; matches = d.1 }

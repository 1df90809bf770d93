-- What a writer wrote, as a text put into its bytes. Assumes nothing.
use mathlib.Core.Path.{◌≡◌, ap}
use mathlib.Core.List.{List}
use Prim.Native.Nat.{ℕ}
use Rattle.put.specs.Put.{Put}
use Rattle.record_writer.specs.Wrote.{wrote}
use Rattle.record_writer.specs.declared.Writer.{Writer}

pub wrote_put : (w v : Writer) (text : List ℕ) → v ≡ wrote w text → Put w.buf.now w.at text v.at v.buf.now
wrote_put w v text e = record { next_is = ap (λ (x : Writer). x.at) e; new_is = ap (λ (x : Writer). x.buf.now) e }

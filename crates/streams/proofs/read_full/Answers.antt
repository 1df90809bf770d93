-- A turn that read some bytes: they follow those that were there, both in the list and in the stream.
use Rattle.std.proofs.Common.{rules, ◌≡◌, ◌≤◌, length, take, ℕ, ◌+◌, List, ◌++◌, sym, ap, ◌∙◌, subst, length-take-le}
use Rattle.std.proofs.lemmas.List.{take-append-le}
use Rattle.std.proofs.Math.Seq.{take-append-add}
use Rattle.std.specs.Io.KnownBytes.{Consumes}
use Rattle.std.proofs.KnownBytes.{Consumes-trans}
use borrow.Rule.Slice.PartMut.{post_of, put_mid}
use Rattle.streams.proofs.read_full.Goals as goal

-- what a read put from a on follows what was there
joined : (a k n : ℕ) (xs ys : List ℕ) → a ≤ length xs → n ≤ length ys → take a xs ++ take n ys ≡ take (a + n) (put_mid a k xs ys)
joined a k n xs ys h fits =
    ap (λ l. take a xs ++ l) (sym (take-append-le n ys (post_of a k xs) fits))
    ∙ sym (take-append-add (take a xs) (ys ++ post_of a k xs) n)
    ∙ ap (λ m. take (m + n) (put_mid a k xs ys)) (length-take-le a xs h)

pub loop-n-preserved : goal.loop-n-preserved
loop-n-preserved g c = record {
  length_same = search rules;
  within = search rules;
  moved = subst (Consumes _ _) (joined _ _ _ _ _ c.loop-n.invariant.within c.in_ok-more.ensures.bound.0) (Consumes-trans _ _ _ _ _ c.loop-n.invariant.moved c.in_ok-more.ensures.bytes.0);
}

-- `aggregate::put_pairs` meets its contract: what the code holds is what the votes say, so each output has its values. Assumes nothing.
use Rattle.aggregate_outputs.proofs.Outputs.{wrote}
use Rattle.aggregate.proofs.Answer.{long_enough, counted, below}
use Rattle.aggregate.specs.Extract.{given, room, found, vote_pairs, choice_in}
use Rattle.aggregate_best.specs.declared.Choice.{Choice}
use lib.Ieee.{nan}
use lib.ListN.{length, get_or}
use native.Mathlib.Omega.{arith}
use mathlib.Core.Path.{◌∙◌, refl, sym, ap}
use Rattle.aggregate.proofs.put_pairs.Goals as goal

pub write_all-requires : goal.write_all-requires
write_all-requires c =
    let a = c.args in
    let o = room (length a.px.now) (length a.py.now) (length a.ra.now) (length a.dec.now) (length a.votes.now) (length a.snr.now) in
    let p = c.pick_pairs-pick in
    let l = long_enough o p.result.n (sym c.check_room.ensures ∙ c.in_ok-check_room.was) in
    (omega (arith, p.ensures.pairs.0, p.ensures.pairs.1, c.requires.1), l.0, l.1, l.2, l.3, l.4, l.5)

pub returns : goal.returns
unfolding vote_pairs
returns c =
    let a = c.args in
    let g = given a.matches.now a.xs.now a.ys.now a.snrs.now a.images.now a.catalogue.now a.results.now a.ras.now a.decs.now in
    let p = c.pick_pairs-pick in
    let w = c.write_all in
    let l = p.ensures.pairs.2 in
    let n = counted p.result.n p.result.order (found g) l (omega (arith, p.ensures.pairs.0, c.requires.1)) p.ensures.pairs.1 in
    let same = p.ensures.choices in
    let b = below g in record { answer = rw (sym p.ensures.bad ∙ c.if-pick.false, ← n, ← c.check_room.ensures, c.in_ok-check_room.was); px = wrote (λ d. get_or a.xs.now d nan) (λ d. get_or a.xs.now d nan) p.result.order (found g) p.result.n (length a.xs.now) a.px.now _ l n b (λ d h. refl) w.ensures.px_after; py = wrote (λ d. get_or a.ys.now d nan) (λ d. get_or a.ys.now d nan) p.result.order (found g) p.result.n (length a.xs.now) a.py.now _ l n b (λ d h. refl) w.ensures.py_after; ra = wrote (λ d. get_or a.ras.now (choice_in g d).at.0 nan) (λ d. get_or a.ras.now (get_or p.result.at d 0) nan) p.result.order (found g) p.result.n (length a.xs.now) a.ra.now _ l n b (λ d h. ap (λ (x : Choice). get_or a.ras.now x.at.0 nan) (same d h)) w.ensures.ra_after; dec = wrote (λ d. get_or a.decs.now (choice_in g d).at.0 nan) (λ d. get_or a.decs.now (get_or p.result.at d 0) nan) p.result.order (found g) p.result.n (length a.xs.now) a.dec.now _ l n b (λ d h. ap (λ (x : Choice). get_or a.decs.now x.at.0 nan) (same d h)) w.ensures.dec_after; votes = wrote (λ d. (choice_in g d).votes) (λ d. get_or p.result.votes d 0) p.result.order (found g) p.result.n (length a.xs.now) a.votes.now _ l n b (λ d h. ap (λ (x : Choice). x.votes) (same d h)) w.ensures.votes_after; snr = wrote (λ d. get_or a.snrs.now d nan) (λ d. get_or a.snrs.now d nan) p.result.order (found g) p.result.n (length a.xs.now) a.snr.now _ l n b (λ d h. refl) w.ensures.snr_after }

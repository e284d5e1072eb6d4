use Rattle.std.proofs.Common.{◌+◌, ◌^◌, refl, ◌∙◌, arith, rules}
use Rattle.std.proofs.lemmas.List.FromFn.{length-range_with_len}
use Rattle.std.proofs.lemmas.Iterator.{YieldsList-from_range, YieldsList-from_map}
use Rattle.std.proofs.lemmas.Iterator.Adapters.{fits_from_length, at_most_from_yields_List, total_from_yields_List}
use Rattle.loads.specs.Framed.{frame, most_frames}
use Rattle.loads.specs.Kind.{largest_entry}
use Rattle.loads.specs.LawProofs.Frames.{frames_fold, frames_high}
use Rattle.loads.specs.LawProofs.FramedLaws.{frame_high}
use Rattle.loads.proofs.framed.Cycle.sum.Goals as goal

pub sum-requires-clause-fits : goal.sum-requires-clause-fits
sum-requires-clause-fits c =
    fits_from_length _ _ most_frames (2 ^ 64) (at_most_from_yields_List (YieldsList-from_range _ _ _ c.map.ensures.source refl) (omega (arith, length-range_with_len))) c.map.ensures.closure (omega arith) (λ x r q k. search rules)

pub returns-clause-is : goal.returns-clause-is
returns-clause-is c =
    let start = c.args.start in
    let n = c.args.n in
    let row = c.args.self.now.row.now in
    let range = YieldsList-from_range start (start + n) n c.map.ensures.source (omega arith) in
    total_from_yields_List (λ a x. a + x) 0 c.sum.result c.sum.ensures.ran (YieldsList-from_map _ (frame row) range c.map.ensures.closure (λ x r q k. search rules))
    ∙ frames_fold row start n 0 ∙ omega arith

pub returns-clause-high : goal.returns-clause-high
returns-clause-high c =
    let row = c.args.self.now.row.now in
    omega (arith, returns-clause-is c, frames_high row largest_entry (frame_high row c.args.self.now.lawful) c.args.start c.args.n)

use Rattle.std.proofs.Common.{ℕ, ◌+◌, ◌*◌, ◌/◌, ◌%◌, ap, sym, ◌∙◌, arith, rules, unwrap_or}
use Rattle.std.proofs.lemmas.Iterator.{YieldsList-from_range, YieldsList-from_map}
use Rattle.std.proofs.lemmas.Iterator.Adapters.{option_map_id}
use Rattle.std.proofs.lemmas.Iterator.Consumers.{max_from_yields_List}
use Rattle.loads.specs.Framed.{frames}
use Rattle.loads.specs.LawProofs.Frames.{busiest_rest, largest_of_reduce}
use Rattle.loads.proofs.framed.Cycle.busiest.Goals as goal

pub returns : goal.returns
returns c =
    let row = c.args.self.now.row.now in
    let n : ℕ = c.args.n in
    let k : ℕ = c.count-count.result in
    let cycle : ℕ = c.sum.result in
    let run : ℕ → ℕ = λ s. n / k * cycle + frames row s (n % k) in
    let tried = max_from_yields_List _ c.max.result c.max.ensures.ran (YieldsList-from_map _ run (YieldsList-from_range 0 k k c.map.ensures.source (omega arith)) c.map.ensures.closure (λ x r q h. search rules)) in
    c.unwrap_or.ensures ∙ ap (λ m. unwrap_or m 0) (sym (option_map_id c.max.result) ∙ tried) ∙ largest_of_reduce run k ∙ busiest_rest row n k cycle c.count-count.ensures.is c.sum.ensures.is

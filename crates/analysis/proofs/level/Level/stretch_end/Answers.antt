use Rattle.std.proofs.Common.{ℕ, rules, subst}
use Rattle.std.proofs.lemmas.Fn.{fold_over, slice_gives, fronts}
use Rattle.loads.specs.Kind.{Until, horizon}
use Rattle.analysis.specs.Instants.{requests}
use Rattle.analysis.proofs.Stretches.{until_none, stretch_push}
use Rattle.analysis.proofs.level.Level.stretch_end.Goals as goal

pub returns : goal.returns
returns g c =
    let level = c.args.self.now in
    let k = g.K.LoadKind.means level.kind.now in
    subst (λ rows. Until horizon (requests k rows) c.args.t c.fold.result) c.iter.ensures.rest
    (fold_over fronts (λ row. row.now) _ (λ rows end. Until horizon (requests k rows) c.args.t end) _
    (λ rows a row b f' so_far called. let more = λ (u : ℕ). stretch_push c.requires.within (g.met.K.LoadKind.laws level.kind.now) rows row.now {u = u} so_far in search (rules, more))
    _ _ _ _ (slice_gives c.iter.result) (until_none horizon c.args.t) c.fold.ensures.ran)

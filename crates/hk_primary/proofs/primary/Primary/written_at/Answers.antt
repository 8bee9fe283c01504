use Rattle.std.proofs.Common.{◌≡◌, ℕ, sym, ap, ◌∙◌, refl, Option, Some, None, unwrap_or}
use Rattle.hk_primary.proofs.PrimaryRules.{last_written_is}
use Rattle.hk_primary.proofs.LatestVersions.{written_by}
use Rattle.hk_primary.proofs.primary.Primary.written_at.Goals as goal

dead_or_born : (b : ℕ) (died : Option ℕ) → unwrap_or died b ≡ written_by (Some (b, died))
dead_or_born b None = refl
dead_or_born b (Some d) = refl

pub returns-in-Some : goal.returns-in-Some
returns-in-Some c = let a = c.self.inside in rw (← c.self.view_is) (c.written.ensures ∙ dead_or_born c.in-Some.span.0 c.in-Some.span.1 ∙ last_written_is a.config a.newest a.log.items a.facts a.counts.items a.retired.items c.self.invariant c.args.key (Some (c.in-Some.span.0, c.in-Some.span.1)) c.in-Some.ensures)

pub returns-in-None : goal.returns-in-None
returns-in-None c = let a = c.self.inside in rw (← c.self.view_is) (c.zero.ensures ∙ last_written_is a.config a.newest a.log.items a.facts a.counts.items a.retired.items c.self.invariant c.args.key None c.in-None.ensures)

use Rattle.std.proofs.Common.{◌≡◌, ℕ, sym, ap, ◌∙◌, refl, true, false, true≢false, Option, Some, None, is_some}
use Rattle.hk_primary.proofs.PrimaryRules.{standing_is}
use Rattle.hk_primary.proofs.LatestVersions.{put_by}
use Rattle.hk_primary.proofs.primary.Primary.put_at.Goals as goal

ended : (b : ℕ) (died : Option ℕ) → is_some died ≡ true → None ≡ put_by (Some (b, died))
ended b None e = absurd (true≢false (sym e))
ended b (Some d) e = refl

unended : (b : ℕ) (died : Option ℕ) → is_some died ≡ false → Some b ≡ put_by (Some (b, died))
unended b None e = refl
unended b (Some d) e = absurd (true≢false e)

pub returns-in_err-born : goal.returns-in_err-born
returns-in_err-born c = let a = c.self.inside in rw (← c.self.view_is) (c.from_residual.ensures ∙ standing_is a.config a.newest a.log.items a.facts a.counts.items a.retired.items c.self.invariant c.args.key None c.in_err-born.ensures)

pub returns-then-is_some : goal.returns-then-is_some
returns-then-is_some c =
    let a = c.self.inside in
    rw (← c.self.view_is) (ended c.in_ok-born.born c.in_ok-born.died (sym c.is_some.ensures ∙ c.if-is_some.true) ∙ standing_is a.config a.newest a.log.items a.facts a.counts.items a.retired.items c.self.invariant c.args.key (Some (c.in_ok-born.born, c.in_ok-born.died)) c.in_ok-born.ensures)

pub returns : goal.returns
returns c =
    let a = c.self.inside in
    rw (← c.self.view_is) (unended c.in_ok-born.born c.in_ok-born.died (sym c.is_some.ensures ∙ c.if-is_some.false) ∙ standing_is a.config a.newest a.log.items a.facts a.counts.items a.retired.items c.self.invariant c.args.key (Some (c.in_ok-born.born, c.in_ok-born.died)) c.in_ok-born.ensures)

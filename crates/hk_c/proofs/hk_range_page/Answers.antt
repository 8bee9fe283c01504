use Rattle.std.proofs.Common.{rules}
use Rattle.hk_handle.specs.Pages.{ranged_page}
use Rattle.hk_handle.proofs.PagesWritten.{paged_at}
use Rattle.hk_c.proofs.hk_range_page.Goals as goal

pub returns-in-Some : goal.returns-in-Some
returns-in-Some c =
    paged_at c.args.handle.now.replica c.put_back.new.handle.replica c.in-Some.replica.value c.write_page-number.new.replica (λ k. ranged_page k c.args.time c.args.table c.args.low c.args.high c.args.most)
    c.page_of_range-found.result c.write_page-number.new.told c.args.out.now c.write_page-number.new.out c.write_page-number.result (search rules) (search rules) (search rules) (search rules)

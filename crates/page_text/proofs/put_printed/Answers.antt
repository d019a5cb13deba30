use Rattle.page_text.specs.PageTextLaws.{page_printed}
use Rattle.page_text.proofs.put_printed.Goals as goal

pub returns : goal.returns
returns c = let made = c.make_page-page.ensures in
    (rw (page_printed made) at c.put_page.ensures, made.words)

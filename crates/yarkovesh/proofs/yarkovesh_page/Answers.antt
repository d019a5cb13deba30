use Rattle.yarkovesh.specs.ExportedPageLaws.{refused_keeps_numbers, read_gives_numbers}
use Rattle.yarkovesh.proofs.yarkovesh_page.Goals as goal

pub returns-in-Err : goal.returns-in-Err
returns-in-Err c = rw c.listing_number.ensures
    (refused_keeps_numbers _ c.make_page-page.ensures c.in-Err.is)

pub returns-in-Ok : goal.returns-in-Ok
returns-in-Ok c = rw (c.listing_number-in-Ok.ensures, c.bits_of.ensures)
    (read_gives_numbers _ c.make_page-page.ensures
    c.in-Ok.is)

-- The inner device of another one.
use Rattle.lbk_feed.specs.declared.noted.input.Input.{Input}
use Rattle.lbk_feed.specs.declared.noted.noting.Noting.{Noting}
use Rattle.lbk_feed.specs.declared.noted.prompted.Prompted.{Prompted}

-- the reader or writer; its errors are recorded
unfoldable pub within_noting : {D : Type 0} → Noting D → D
within_noting n = n.inner

-- the source; its encoding and notation are recorded
unfoldable pub within_input : {S : Type 0} → Input S → S
within_input i = i.inner

-- the source; a prompt is shown before its first read
unfoldable pub within_prompted : {S P : Type 0} → Prompted S P → S
within_prompted p = p.inner

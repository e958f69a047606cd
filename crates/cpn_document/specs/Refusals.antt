-- Why bytes are no document. Source: own choice.
use Rattle.cpn_document.specs.declared.pointers.Pointer.{Pointer}
use Rattle.cpn_document.specs.declared.refusals.Limit.{Limit}

-- They are no JSON value; at this pointer something has the wrong shape, is no whole number that may stand there, or is no
-- name or no new one; the version is another; there are too many of this kind.
pub data FormRefusal : Type 0 where
  not_json : FormRefusal
  shape : Pointer → FormRefusal
  bad_number : Pointer → FormRefusal
  bad_name : Pointer → FormRefusal
  version : FormRefusal
  limit : Limit → FormRefusal

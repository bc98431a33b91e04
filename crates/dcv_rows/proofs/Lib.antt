mod NameP
